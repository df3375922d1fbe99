-- `gaps` meets its contract: the gaps of the first k years are made, the sums are those over the
-- claims that year k + 1 has not reported, and with estimated counts the weights are the shares.
-- Assumes nothing.
use Rattle.std.proofs.Common.{◌≡◌, ℕ, ◌+◌, ◌-◌, ◌*◌, ◌/◌, ◌%◌, ◌<◌, List, ℤ, pos, inl, refl, ap, ◌∙◌, arith, rules}
use Rattle.model.specs.Lists.{at}
use Rattle.model.specs.ListsLaws.{listed_none, listed_whole}
use Rattle.model.specs.Lent.{triangle_in}
use Rattle.cells.specs.declared.Cell.{Cell}
use Rattle.cells.specs.CellOf.{number, sums_from, cell_of}
use Rattle.cells.specs.SumsFromLaws.{no_sums}
use Rattle.years.specs.Ready.{year_weights}
use Rattle.years.specs.ReadyLaws.{counted, estimated, is_estimated, same_basis, same_weights, next_year, base_back, shares_fit}
use Rattle.gaps.specs.Gaps as Gaps
use Rattle.gaps.specs.Gaps.{cell_from, gap_at}
use Rattle.gaps.specs.GapsLaws.{not_compared, listed_skip}
use Rattle.gaps.proofs.gaps.Goals as goal
use Rattle.gaps.proofs.gaps.Goals.{in-Estimated, in_default}

-- the gaps of year k + 1, from its cells
row_of : (m n : ℕ) (c : ℕ → ℕ → Cell) (paid : List ℤ) (k j : ℕ) → j < 20 → {x : Cell} → x ≡ c (k + 1) j → gap_at m n c paid (20 * (k + 1 - 1) + j) ≡ Gaps.gap_from m n x paid (k + 1) j
row_of m n c paid k j h e =
    let y : (20 * (k + 1 - 1) + j) / 20 + 1 ≡ k + 1 = omega arith in
    let d : (20 * (k + 1 - 1) + j) % 20 ≡ j = omega arith in
    rw (e, y, d)

-- a cell of year k + 1, from the lists as the code has them
cell_of_lem : (n k j : ℕ) (t : List ℤ) (basis : ℕ) (b g latest v p : List ℤ) {x : ℤ} {w u : List ℤ} → x ≡ at v k → w ≡ year_weights n t basis b g latest (k + 1) → u ≡ sums_from n (n - k) b p
    → cell_of n x w p u (k + 1) j ≡ cell_from n t basis b g latest v p (k + 1) j
cell_of_lem n k j t basis b g latest v p e f q = let z : k + 1 - 1 ≡ k = omega arith in rw (e, f, q, z)

pub whole_sums-requires-clause-weights : goal.whole_sums-requires-clause-weights
whole_sums-requires-clause-weights c = (shares_fit c.requires.1, c.requires.1.delays)

pub loop-k-init : goal.loop-k-init
loop-k-init c =
    let a = c.args in
    let e : a.n ≡ a.n - 0 = omega arith in
    record {
      made = c.requires.2 ∙ listed_none 400 (gap_at a.m a.n (cell_from a.n (triangle_in 0 a.set.now) a.basis a.shares.now a.counts.now.g a.counts.now.latest a.v.now a.p.now) (triangle_in 1 a.set.now)) (pos 0);
      left = no_sums a.n a.shares.now a.p.now ∙ ap (λ (k : ℕ). sums_from a.n k a.shares.now a.p.now) e;
      estimated = λ _. refl;
    }

pub weights-requires : goal.weights-requires
weights-requires c = counted c.requires.1 (c.loop-k.k + 1) (omega arith) (omega arith)

pub row_gaps-requires : goal.row_gaps-requires
row_gaps-requires c =
    let a = c.args in
    let k = c.loop-k.k in
    let b = number c.from-basis.result in (
      c.requires.0,
      next_year c.requires.1 k (omega arith) b (λ e. elim c.match-basis.branch [ in-Estimated w ↦ rw w.whole-is (search rules) | in_default w ↦ absurd (w.in_default.not-Estimated (is_estimated _ e)) ]) c.loop-k.invariant.left
          (c.weights.ensures ∙ same_weights a.n (triangle_in 0 a.set.now) b a.counts.now.g a.counts.now.latest (k + 1) c.loop-k.s a.shares.now (λ e. c.loop-k.invariant.estimated (c.from-basis.ensures.0 e))),
    )

pub one_more_delay-requires-clause-weights : goal.one_more_delay-requires-clause-weights
one_more_delay-requires-clause-weights c = (shares_fit c.requires.1, c.requires.1.delays)

pub loop-k-preserved : goal.loop-k-preserved
loop-k-preserved c =
    let a = c.args in
    let k = c.loop-k.k in
    let l = c.loop-k.invariant in
    let cells = cell_from a.n (triangle_in 0 a.set.now) a.basis a.shares.now a.counts.now.g a.counts.now.latest a.v.now a.p.now in
    let s_is = c.weights.ensures ∙ same_basis a.n (triangle_in 0 a.set.now) c.loop-k.s a.counts.now.g a.counts.now.latest (k + 1) c.from-basis.ensures ∙ same_weights a.n (triangle_in 0 a.set.now) a.basis a.counts.now.g a.counts.now.latest (k + 1) c.loop-k.s a.shares.now l.estimated in
    let first : 20 * (k + 1 - 1) ≡ 20 * k = omega arith in
    let e : a.n - 1 - k ≡ a.n - (k + 1) = omega arith in
    record {
      made = c.row_gaps.ensures (gap_at a.m a.n cells (triangle_in 1 a.set.now)) (rw first l.made)
          (λ j u. row_of a.m a.n cells (triangle_in 1 a.set.now) k j u
          (cell_of_lem a.n k j (triangle_in 0 a.set.now) a.basis a.shares.now a.counts.now.g a.counts.now.latest a.v.now a.p.now (base_back c.requires.1 k (omega arith)) s_is l.left));
      left = c.one_more_delay.ensures ∙ ap (λ (k : ℕ). sums_from a.n k a.shares.now a.p.now) e;
      estimated = λ q. s_is ∙ estimated a.n (triangle_in 0 a.set.now) a.basis a.counts.now.g a.counts.now.latest (k + 1) a.shares.now q;
    }

pub returns : goal.returns
unfolding Gaps.gaps
returns c =
    let a = c.args in
    let cells = cell_from a.n (triangle_in 0 a.set.now) a.basis a.shares.now a.counts.now.g a.counts.now.latest a.v.now a.p.now in
    let gap = gap_at a.m a.n cells (triangle_in 1 a.set.now) in
    let k = c.loop-k.k in
    c.loop-k.invariant.made
    ∙ listed_skip 400 (20 * k) 400 gap (omega (arith, c.requires.1.few)) (λ q u w. not_compared a.m a.n (cells (q / 20 + 1) (q % 20)) (triangle_in 1 a.set.now) (q / 20 + 1) (q % 20) (inl (omega arith)))
    ∙ listed_whole 400 gap (pos 0)
