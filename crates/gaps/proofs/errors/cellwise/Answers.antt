-- `errors::cellwise` meets its contract: the rows so far are summed. Assumes nothing.
use Rattle.std.proofs.Common.{◌≡◌, arith}
use Rattle.model.specs.BackTest.{cellwise}
use Rattle.gaps.specs.ErrorsLaws.{total_none, total_more, row_small, cells_small}
use Rattle.gaps.proofs.errors.cellwise.Goals as goal

pub loop-k-init : goal.loop-k-init
loop-k-init c = total_none _

pub overflow_add-out : goal.overflow_add-out
overflow_add-out c =
    let a = c.args in
    let s = c.requires.0 in
    let k = c.loop-k.k in
    omega (arith, c.row_error-out.ensures, c.loop-k.invariant, row_small a.d.now s a.n c.requires.1 k (omega arith) a.n (omega arith), cells_small a.d.now s a.n c.requires.1 k (omega arith))

pub loop-k-preserved : goal.loop-k-preserved
loop-k-preserved c = total_more c.loop-k.k _ c.loop-k.invariant c.row_error-out.ensures

pub returns : goal.returns
unfolding cellwise
returns c = let e : c.loop-k.k ≡ c.args.n = omega arith in rw e at c.loop-k.invariant
