-- `errors::row_gap` meets its contract: the cells so far are summed. Assumes nothing.
use Rattle.std.proofs.Common.{ℕ, suc, ◌+◌, ◌*◌, ◌^◌, ◌≤◌, ◌<◌, List, ℤ, nat_abs, sym, arith}
use Rattle.integers.specs.Sums.{sum, sum_zero}
use Rattle.model.specs.Records.{cell}
use Rattle.gaps.specs.Gaps.{SmallGaps}
use Rattle.gaps.specs.ErrorsLaws.{row_gap_small, gap_back, more_fits, more_is}
use Rattle.gaps.proofs.errors.row_gap.Goals as goal

small : (d : List ℤ) (n k j : ℕ) → SmallGaps d → n ≤ 20 → k < 20 → j < n → nat_abs (sum (j + 1) (λ j. cell d (suc k) j)) ≤ 20 * (20 * (5 * 10 ^ 15))
small d n k j s few h l = omega (arith, row_gap_small d s n few k h (j + 1) (omega arith))

pub loop-j-init : goal.loop-j-init
loop-j-init c = sym (sum_zero _)

pub overflow_add-out-in-loop-j : goal.overflow_add-out-in-loop-j
overflow_add-out-in-loop-j c = more_fits c.loop-j.j _ c.loop-j.invariant (gap_back c.args.d.now c.requires.0 c.args.k c.loop-j.j (omega arith) (omega arith)) (small c.args.d.now c.args.n c.args.k c.loop-j.j c.requires.0 c.requires.1 (omega arith) (omega arith))

pub loop-j-preserved : goal.loop-j-preserved
loop-j-preserved c = more_is c.loop-j.j _ c.loop-j.invariant (gap_back c.args.d.now c.requires.0 c.args.k c.loop-j.j (omega arith) (omega arith)) (small c.args.d.now c.args.n c.args.k c.loop-j.j c.requires.0 c.requires.1 (omega arith) (omega arith))
