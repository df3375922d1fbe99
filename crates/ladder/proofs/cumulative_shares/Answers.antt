-- `ladder::cumulative_shares` meets its contract: the shares from delay j on are made, and are in
-- their bounds. Assumes nothing.
use Rattle.std.proofs.Common.{◌≡◌, sym, ◌∙◌, ap, true, List, Some, None, ⊎_elim, ℕ, suc, ◌-◌, ◌+◌, ◌≤◌, ◌<◌, eq-or-lt_of_le, arith, ℤ, pos, ◌*ℤ◌, nat_abs, ◌*◌, ◌^◌, w64, SFits, to_z, of_z, to_z-of_z, rules, false, set}
use Rattle.model.specs.Lists.{at, every}
use Rattle.model.specs.ListsLaws.{every_all, every_no}
use Rattle.model.specs.Rounding.{S, r}
use Rattle.rounding.specs.Words.{fits_abs}
use Rattle.ladder.specs.Ladder.{Steps, bounded, share_in, g_of}
use Rattle.ladder.specs.LadderLaws.{bounds_abs, bounded_so, inside_is, outside_is, g_of_last, g_of_step}
use Rattle.ladder.proofs.Backwards.{listed_from, from_none, from_at, from_next, from_all}
use Rattle.ladder.proofs.cumulative_shares.Goals as goal

pub loop-j-init : goal.loop-j-init
unfolding S
loop-j-init c =
    let m = c.args.m in
    let g = g_of m c.args.a.now c.args.b.now in
    let l : m - 1 < m = omega (arith, c.requires.some) in
    let e : m ≡ suc (m - 1) = omega (arith, c.requires.some) in
    let last : g (m - 1) ≡ pos 1000000000 = g_of_last m c.args.a.now c.args.b.now in (
      l,
      from_next 20 m g (m - 1) (omega (arith, c.requires.few)) l (from_none 20 m g ∙ ap (λ (i : ℕ). listed_from 20 i m g) e) (sym last),
      λ k h u. let q : k ≡ m - 1 = omega arith in rw (q, last),
    )

-- one step down, from the shares from delay j on
module _ {m j : ℕ} {a b list : List ℤ} (ask : Steps m a b) (some : 0 < j)
    (so_far : (j < m) × (list ≡ listed_from 20 j m (g_of m a b)) × ((k : ℕ) → j ≤ k → k < m → bounded (g_of m a b k) ≡ true)) where
  abbrev g : ℕ → ℤ
  g = g_of m a b

  above : at list (j - 1 + 1) ≡ g j
  above = let e : j - 1 + 1 ≡ j = omega arith in rw (e, so_far.1) (from_at 20 m g j j (omega (arith, ask.few)) (omega arith) so_far.0)

  above_most : nat_abs (at list (j - 1 + 1)) ≤ 4 * 10 ^ 9
  above_most = rw above (bounds_abs (g j) (bounded_so _ (so_far.2 j (omega arith) so_far.0))).2

  step : r (at list (j - 1 + 1) *ℤ at a (j - 1)) (at b (j - 1)) ≡ g (j - 1)
  step = let e : suc (j - 1) ≡ j = omega arith in rw above (sym (rw e at (g_of_step m a b (j - 1) (omega arith))))

  -- its share is outside the bounds
  stopped : share_in (g (j - 1)) ≡ None → every m (λ k. bounded (g k)) ≡ false
  stopped e = every_no (λ k. bounded (g k)) m (j - 1) (omega arith) (outside_is (g (j - 1)) e)

  -- or within them
  gone_on : (v : ℤ) → share_in (g (j - 1)) ≡ Some v
      → (j - 1 < m) × (set list (j - 1) (to_z w64 (of_z w64 v)) ≡ listed_from 20 (j - 1) m g) × ((k : ℕ) → j - 1 ≤ k → k < m → bounded (g k) ≡ true)
  gone_on v e =
      let told = inside_is (g (j - 1)) v e in
      let after : j ≡ suc (j - 1) = omega arith in
      let fits : SFits w64 (g (j - 1)) = fits_abs (omega (arith, (bounds_abs (g (j - 1)) (bounded_so (g (j - 1)) told.1)).2)) in (
        omega arith,
        from_next 20 m g (j - 1) (omega (arith, ask.few)) (omega arith) (so_far.1 ∙ ap (λ (i : ℕ). listed_from 20 i m g) after) (rw (← told.0) (to_z-of_z fits)),
        λ k h u. ⊎_elim (λ q. rw (← q) told.1) (λ q. so_far.2 k (omega arith) u) (eq-or-lt_of_le h),
      )

pub next_share-requires : goal.next_share-requires
next_share-requires c =
    let x : SFits w64 (at c.loop-j.g (c.loop-j.j - 1 + 1)) = search rules in
    let y : SFits w64 (at c.args.a.now (c.loop-j.j - 1)) = search rules in
    let z : SFits w64 (at c.args.b.now (c.loop-j.j - 1)) = search rules in
    let k : c.loop-j.j - 1 < c.args.m - 1 = omega (arith, c.loop-j.invariant.0) in
    rw (to_z-of_z x, to_z-of_z y, to_z-of_z z)
    (above_most c.requires c.loop-j-test.true c.loop-j.invariant, c.requires.over (c.loop-j.j - 1) k, (c.requires.under (c.loop-j.j - 1) k).0, (c.requires.under (c.loop-j.j - 1) k).1)

pub returns-in_err-g : goal.returns-in_err-g
returns-in_err-g c =
    let x : SFits w64 (at c.loop-j.g (c.loop-j.j - 1 + 1)) = search rules in
    let y : SFits w64 (at c.args.a.now (c.loop-j.j - 1)) = search rules in
    let z : SFits w64 (at c.args.b.now (c.loop-j.j - 1)) = search rules in
    let e = rw (to_z-of_z x, to_z-of_z y, to_z-of_z z, step c.requires c.loop-j-test.true c.loop-j.invariant) at c.in_err-g.ensures in
    rw c.from_residual.ensures (stopped c.requires c.loop-j-test.true c.loop-j.invariant (sym e))

pub loop-j-preserved : goal.loop-j-preserved
loop-j-preserved c =
    let x : SFits w64 (at c.loop-j.g (c.loop-j.j - 1 + 1)) = search rules in
    let y : SFits w64 (at c.args.a.now (c.loop-j.j - 1)) = search rules in
    let z : SFits w64 (at c.args.b.now (c.loop-j.j - 1)) = search rules in
    let e = rw (to_z-of_z x, to_z-of_z y, to_z-of_z z, step c.requires c.loop-j-test.true c.loop-j.invariant) at c.in_ok-g.ensures in
    gone_on c.requires c.loop-j-test.true c.loop-j.invariant c.in_ok-g.field-0 (sym e)

pub returns : goal.returns
returns c =
    let g = g_of c.args.m c.args.a.now c.args.b.now in
    let l = c.loop-j.invariant in
    let e : c.loop-j.j ≡ 0 = omega arith in
    (every_all (λ k. bounded (g k)) c.args.m (λ k u. l.2 k (omega arith) u), l.1 ∙ ap (λ (i : ℕ). listed_from 20 i c.args.m g) e ∙ from_all 20 c.args.m g)
