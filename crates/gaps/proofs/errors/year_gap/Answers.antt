-- `errors::year_gap` meets its contract: the rows so far are summed. Assumes nothing.
use Rattle.std.proofs.Common.{◌≡◌, ℕ, ◌+◌, ◌*◌, ◌^◌, ◌≤◌, ◌<◌, List, ℤ, nat_abs, sym, ◌∙◌, arith, w64}
use Rattle.std.proofs.Math.Facts.{to_z-of_z}
use Rattle.integers.specs.Sums.{sum, sum_zero}
use Rattle.gaps.specs.Gaps.{SmallGaps, row_in_year}
use Rattle.model.specs.BackTest.{year_gap}
use Rattle.gaps.specs.ErrorsLaws.{year_small, more_fits, more_is}
use Rattle.gaps.proofs.errors.year_gap.Goals as goal

small : (d : List ℤ) (n e k : ℕ) → SmallGaps d → n ≤ 20 → k < n → nat_abs (sum (k + 1) (λ k. row_in_year d n k e)) ≤ 20 * (20 * (5 * 10 ^ 15))
small d n e k s few l = omega (arith, year_small d s n few e (k + 1) (omega arith))

pub loop-k-init : goal.loop-k-init
loop-k-init c = sym (sum_zero _)

pub overflow_add-out : goal.overflow_add-out
overflow_add-out c = more_fits c.loop-k.k _ c.loop-k.invariant (to_z-of_z {w = w64} (record { sfits = c.row_in_year-out.type_inv }) ∙ c.row_in_year-out.ensures) (small c.args.d.now c.args.n (c.args.n + c.args.t) c.loop-k.k c.requires.0 c.requires.1 (omega arith))

pub loop-k-preserved : goal.loop-k-preserved
loop-k-preserved c = more_is c.loop-k.k _ c.loop-k.invariant (to_z-of_z {w = w64} (record { sfits = c.row_in_year-out.type_inv }) ∙ c.row_in_year-out.ensures) (small c.args.d.now c.args.n (c.args.n + c.args.t) c.loop-k.k c.requires.0 c.requires.1 (omega arith))

pub returns : goal.returns
unfolding year_gap
returns c = let e : c.loop-k.k ≡ c.args.n = omega arith in rw e at c.loop-k.invariant
