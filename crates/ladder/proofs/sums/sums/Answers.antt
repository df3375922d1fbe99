-- `ladder::sums::sums` meets its contract: A(j) and B(j) go on from delay to delay. Assumes
-- nothing.
use Rattle.std.proofs.Common.{◌≡◌, sym, ◌∙◌, ap, ap₂, List, ℕ, suc, ◌+◌, ◌-◌, ◌*◌, ◌^◌, ◌<◌, ◌≤◌, add-one, arith, rules, ℤ, pos, ◌+ℤ◌, ◌-ℤ◌, w64, SFits, to_z, of_z, to_z-of_z}
use Rattle.integers.specs.Sums.{sum}
use Rattle.model.specs.Lists.{at}
use Rattle.model.specs.ListsLaws.{listed_none, listed_next}
use Rattle.model.specs.Records.{cell}
use Rattle.model.specs.Lent.{triangle_in}
use Rattle.model.specs.Shares.{A, B}
use Rattle.ladder.specs.Sums.{Small, latests, a_sums, b_sums}
use Rattle.ladder.specs.LadderLaws.{at_latests}
use Rattle.ladder.specs.SumsLaws.{B-first, A-next, B-next, A-small, B-small, column_sum, column_spaced, running}
use Rattle.rounding.specs.Words.{fits_abs}
use Rattle.ladder.proofs.sums.sums.Goals as goal

-- one delay further, to delay j, in words
module _ (m : ℕ) (set : List ℤ) (kind : ℕ) (small : Small m (10 ^ 10) (triangle_in kind set)) where
  abbrev tri : List ℤ
  tri = triangle_in kind set

  A-fits : (j : ℕ) → j < m → SFits w64 (A m tri j)
  A-fits j h = fits_abs (omega (arith, A-small m (10 ^ 10) tri small j h))

  B-fits : (j : ℕ) → j < m → SFits w64 (B m tri j)
  B-fits j h = fits_abs (omega (arith, B-small m (10 ^ 10) tri small j h))

  module _ (j : ℕ) (some : 1 ≤ j) (h : j < m) where
    A-word : {w x : ℤ} → w ≡ B m tri (j - 1) → SFits w64 x → x ≡ at (latests m tri) (m - j) → w -ℤ to_z w64 (of_z w64 x) ≡ A m tri (suc (j - 1))
    A-word e f q =
        ap₂ (λ (x y : ℤ). x -ℤ y) e (to_z-of_z f ∙ q ∙ at_latests m tri small.few (m - j) (omega arith))
        ∙ A-next m tri (j - 1) (m - j) (omega arith)

    B-word : {x y : ℤ} → x ≡ A m tri (suc (j - 1)) → SFits w64 y → y ≡ sum (m - j) (λ i. at set (400 * kind + j + 20 * i)) → to_z w64 (of_z w64 x) +ℤ to_z w64 (of_z w64 y) ≡ B m tri (suc (j - 1))
    B-word e f q =
        let n : j ≡ suc (j - 1) = omega arith in
        ap₂ (λ (x y : ℤ). x +ℤ y) (ap (λ (z : ℤ). to_z w64 (of_z w64 z)) e ∙ to_z-of_z (A-fits (suc (j - 1)) (omega arith)))
        (to_z-of_z f ∙ q ∙ column_sum set kind (m - j) j (omega (arith, small.few)) (omega (arith, small.few)) ∙ ap (λ (i : ℕ). sum (m - i) (λ k. cell tri (suc k) i)) n)
        ∙ sym (B-next m tri (j - 1))

pub spaced_sum-whole-requires : goal.spaced_sum-whole-requires
spaced_sum-whole-requires c =
    let e : 400 * c.args.kind ≡ 400 * c.args.kind + 0 = omega arith in
    rw e (running (search rules) (column_spaced c.args.set.now c.args.kind c.args.m c.requires.kind_bound.0 c.requires.kind_bound.1 c.args.m 0 (omega arith)))

pub loop-j-init : goal.loop-j-init
loop-j-init c =
    let e : 400 * c.args.kind ≡ 400 * c.args.kind + 0 = omega arith in
    let f : SFits w64 c.spaced_sum-whole.result = search rules in
    let column = column_sum c.args.set.now c.args.kind c.args.m 0 c.requires.kind_bound.1.few (omega arith) in (
      omega arith,
      c.requires.latest_value.1 ∙ listed_none 20 _ (pos 0),
      c.requires.latest_value.2 ∙ listed_none 20 _ (pos 0),
      to_z-of_z f ∙ rw e at c.spaced_sum-whole.ensures ∙ column ∙ sym (B-first c.args.m (triangle_in c.args.kind c.args.set.now)),
    )

pub spaced_sum-requires : goal.spaced_sum-requires
spaced_sum-requires c =
    running (search rules) (column_spaced c.args.set.now c.args.kind c.args.m c.requires.kind_bound.0 c.requires.kind_bound.1 (c.args.m - c.loop-j.j) c.loop-j.j (omega arith))

pub overflow_sub-part-in-loop-j : goal.overflow_sub-part-in-loop-j
overflow_sub-part-in-loop-j c =
    let x : SFits w64 (at c.latest_sums.new.latest (c.args.m - c.loop-j.j)) = search rules in
    let part = A-word c.args.m c.args.set.now c.args.kind c.requires.kind_bound.1 c.loop-j.j c.loop-j.auto.j c.loop-j-test.true c.loop-j.invariant.3 x (ap (λ (l : List ℤ). at l (c.args.m - c.loop-j.j)) c.latest_sums.ensures) in
    rw part (A-fits c.args.m c.args.set.now c.args.kind c.requires.kind_bound.1 (suc (c.loop-j.j - 1)) (omega arith))

pub overflow_add-whole : goal.overflow_add-whole
overflow_add-whole c =
    let x : SFits w64 (at c.latest_sums.new.latest (c.args.m - c.loop-j.j)) = search rules in
    let part = A-word c.args.m c.args.set.now c.args.kind c.requires.kind_bound.1 c.loop-j.j c.loop-j.auto.j c.loop-j-test.true c.loop-j.invariant.3 x (ap (λ (l : List ℤ). at l (c.args.m - c.loop-j.j)) c.latest_sums.ensures) in
    let y : SFits w64 c.spaced_sum.result = search rules in
    let whole = B-word c.args.m c.args.set.now c.args.kind c.requires.kind_bound.1 c.loop-j.j c.loop-j.auto.j c.loop-j-test.true part y c.spaced_sum.ensures in
    rw whole (B-fits c.args.m c.args.set.now c.args.kind c.requires.kind_bound.1 (suc (c.loop-j.j - 1)) (omega arith))

pub loop-j-preserved : goal.loop-j-preserved
loop-j-preserved c =
    let x : SFits w64 (at c.latest_sums.new.latest (c.args.m - c.loop-j.j)) = search rules in
    let part = A-word c.args.m c.args.set.now c.args.kind c.requires.kind_bound.1 c.loop-j.j c.loop-j.auto.j c.loop-j-test.true c.loop-j.invariant.3 x (ap (λ (l : List ℤ). at l (c.args.m - c.loop-j.j)) c.latest_sums.ensures) in
    let y : SFits w64 c.spaced_sum.result = search rules in
    let whole = B-word c.args.m c.args.set.now c.args.kind c.requires.kind_bound.1 c.loop-j.j c.loop-j.auto.j c.loop-j-test.true part y c.spaced_sum.ensures in
    let fa = A-fits c.args.m c.args.set.now c.args.kind c.requires.kind_bound.1 (suc (c.loop-j.j - 1)) (omega arith) in
    let fb = B-fits c.args.m c.args.set.now c.args.kind c.requires.kind_bound.1 (suc (c.loop-j.j - 1)) (omega arith) in
    let few : c.loop-j.j - 1 < 20 = omega (arith, c.requires.kind_bound.1.few) in
    let e : c.loop-j.j + 1 - 1 ≡ c.loop-j.j - 1 + 1 = omega arith in
    rw e (
      omega arith,
      listed_next 20 (c.loop-j.j - 1) _ (pos 0) few c.loop-j.invariant.1 (rw part (to_z-of_z fa)),
      listed_next 20 (c.loop-j.j - 1) _ (pos 0) few c.loop-j.invariant.2 (rw whole (to_z-of_z fb)),
      rw (whole, add-one) (to_z-of_z fb),
    )

pub returns-clause-a_after : goal.returns-clause-a_after
unfolding a_sums
returns-clause-a_after c = let e : c.loop-j.j - 1 ≡ c.args.m - 1 = omega arith in rw e at c.loop-j.invariant.1

pub returns-clause-b_after : goal.returns-clause-b_after
unfolding b_sums
returns-clause-b_after c = let e : c.loop-j.j - 1 ≡ c.args.m - 1 = omega arith in rw e at c.loop-j.invariant.2
