-- `errors::row_error` meets its contract: the cells so far are summed. Assumes nothing.
use Rattle.std.proofs.Common.{nat_abs, ap, ◌∙◌, arith}
use Rattle.gaps.specs.ErrorsLaws.{total_none, total_more, row_small, gap_back}
use Rattle.gaps.proofs.errors.row_error.Goals as goal

pub loop-j-init : goal.loop-j-init
loop-j-init c = total_none _

pub overflow_add-out : goal.overflow_add-out
overflow_add-out c =
    let a = c.args in
    let s = c.requires.0 in
    let j = c.loop-j.j in
    let e = c.unsigned_abs-out.ensures.value ∙ ap nat_abs (gap_back a.d.now s a.k j (omega arith) (omega arith)) in
    omega (arith, e, c.loop-j.invariant, s.gap a.k j (omega arith) (omega arith), row_small a.d.now s a.n c.requires.1 a.k (omega arith) j (omega arith))

pub loop-j-preserved : goal.loop-j-preserved
loop-j-preserved c =
    total_more c.loop-j.j _ c.loop-j.invariant (c.unsigned_abs-out.ensures.value ∙ ap nat_abs (gap_back c.args.d.now c.requires.0 c.args.k c.loop-j.j (omega arith) (omega arith)))
