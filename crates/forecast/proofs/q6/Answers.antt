-- `forecast::q6` meets its contract. Assumes nothing.
use Rattle.std.proofs.Common.{◌∙◌, arith, le-leb}
use Rattle.std.proofs.lemmas.Bool.{lt-leb}
use Rattle.std.proofs.lemmas.Grind.{common_steps}
use Rattle.model.specs.Questions.{q6}
use Rattle.forecast.proofs.q6.Goals as goal
use Rattle.forecast.proofs.q6.Goals.{then-method-le2, else-method-le2}

pub returns-then-method-eq0 : goal.returns-then-method-eq0
unfolding q6
returns-then-method-eq0 c = rw (c.if-method-eq0.true, le-leb c.args.basis 1 c.if-basis-le1.true.1)

pub returns-else-method-eq0 : goal.returns-else-method-eq0
unfolding q6
returns-else-method-eq0 c = grind (arith, common_steps)

pub returns-else-basis-le1 : goal.returns-else-basis-le1
unfolding q6
returns-else-basis-le1 c =
    elim c.if-method-le2.branch [
      | then-method-le2 w ↦ w.t-5-is ∙ rw (lt-leb c.args.basis 1 (omega arith), le-leb c.args.method 2 w.if-method-le2.true)
      | else-method-le2 w ↦ w.t-5-is ∙ rw (lt-leb c.args.method 2 w.if-method-le2.false)
    ]
