-- `errors::cell_number` meets its contract: the calendar years so far are summed. Assumes nothing.
use Rattle.std.proofs.Common.{◌≡◌, ◌-◌, suc, arith}
use Rattle.model.specs.BackTest.{cell_number}
use Rattle.gaps.specs.ErrorsLaws.{total_none, total_more, twenty}
use Rattle.gaps.proofs.errors.cell_number.Goals as goal

pub overflow_add-out : goal.overflow_add-out
overflow_add-out c =
    omega (arith, c.loop-k.invariant, twenty c.loop-k.k 20 (λ k. c.args.n - suc k) (omega (arith, c.min-k-end.ensures)) (λ k h. omega arith))

pub loop-k-init : goal.loop-k-init
loop-k-init c = total_none _

pub loop-k-preserved : goal.loop-k-preserved
loop-k-preserved c = total_more c.loop-k.k _ c.loop-k.invariant (omega arith)

pub returns : goal.returns
unfolding cell_number
returns c = let e : c.loop-k.k ≡ c.min-k-end.result = omega arith in rw (e, c.min-k-end.ensures) at c.loop-k.invariant
