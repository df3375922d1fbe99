-- `errors::yearwise` meets its contract: the calendar years so far are summed. Assumes nothing.
use Rattle.std.proofs.Common.{◌≡◌, ℕ, suc, ◌+◌, ◌*◌, ◌^◌, ◌≤◌, List, ℤ, nat_abs, ap, ◌∙◌, add-one, arith, w64, to_z, of_z}
use Rattle.gaps.specs.Gaps.{SmallGaps}
use Rattle.model.specs.Records.{cell}
use Rattle.model.specs.BackTest.{year_gap, yearwise}
use Rattle.cells.specs.SmallLaws.{read_back}
use Rattle.gaps.specs.ErrorsLaws.{total_none, total_more, gap_small, years_small}
use Rattle.gaps.proofs.errors.yearwise.Goals as goal

-- the absolute error of a year, as it is read
error_is : (d : List ℤ) (n k : ℕ) {g : ℤ} {e : ℕ} → SmallGaps d → n ≤ 20 → e ≡ nat_abs (to_z w64 (of_z w64 g)) → g ≡ year_gap n (cell d) (k + 1) → e ≡ nat_abs (year_gap n (cell d) (suc k))
error_is d n k {g} s few h q =
    let b : nat_abs g ≤ 20 * (20 * (5 * 10 ^ 15)) = rw (q, add-one k) (omega (arith, gap_small d s n few (suc k))) in
    h ∙ ap nat_abs (read_back g (omega (arith, b)) ∙ q ∙ ap (year_gap n (cell d)) (add-one k))

pub loop-k-init : goal.loop-k-init
loop-k-init c = total_none _

pub overflow_add-out : goal.overflow_add-out
overflow_add-out c =
    let a = c.args in
    let k = c.loop-k.k in
    omega (arith, error_is a.d.now a.n c.loop-k.k c.requires.0 c.requires.1 c.unsigned_abs-out.ensures.value c.year_gap.ensures, gap_small a.d.now c.requires.0 a.n c.requires.1 (suc k), c.loop-k.invariant, years_small a.d.now c.requires.0 a.n c.requires.1 k (omega arith))

pub loop-k-preserved : goal.loop-k-preserved
loop-k-preserved c = let a = c.args in total_more c.loop-k.k _ c.loop-k.invariant (error_is a.d.now a.n c.loop-k.k c.requires.0 c.requires.1 c.unsigned_abs-out.ensures.value c.year_gap.ensures)

pub returns : goal.returns
unfolding yearwise
returns c = let e : c.loop-k.k ≡ c.args.c = omega arith in rw e at c.loop-k.invariant
