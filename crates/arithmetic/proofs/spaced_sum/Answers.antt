-- `arithmetic::spaced_sum` meets its contract: the numbers so far are summed. Assumes nothing.
use Rattle.std.proofs.Common.{sym, ◌+◌, ◌*◌, rules, arith, SFits, w64, to_z-of_z}
use Rattle.integers.specs.Sums.{sum_zero}
use Rattle.model.specs.Lists.{at}
use Rattle.rounding.specs.Running.{sum_add}
use Rattle.arithmetic.proofs.spaced_sum.Goals as goal

pub loop-k-init : goal.loop-k-init
loop-k-init c = sym (sum_zero _)

pub overflow_add-out-in-loop-k : goal.overflow_add-out-in-loop-k
overflow_add-out-in-loop-k c =
    let read : SFits w64 (at c.args.xs.now (c.args.first + c.args.step * c.loop-k.k)) = search rules in
    rw (sum_add c.loop-k.k _ c.loop-k.invariant (to_z-of_z read)) (c.requires.fits (c.loop-k.k + 1) (omega arith))

pub loop-k-preserved : goal.loop-k-preserved
loop-k-preserved c =
    let read : SFits w64 (at c.args.xs.now (c.args.first + c.args.step * c.loop-k.k)) = search rules in
    rw (sum_add c.loop-k.k _ c.loop-k.invariant (to_z-of_z read)) (to_z-of_z (c.requires.fits (c.loop-k.k + 1) (omega arith)))
