-- `cells_ok` meets its contract: each year so far passes. Assumes nothing.
use Rattle.std.proofs.Common.{◌≡◌, ◌∙◌, sym, add-one, arith}
use Rattle.model.specs.ListsLaws.{every_none, every_more, every_no}
use Rattle.model.specs.Questions.{each_cell}
use Rattle.set_file.proofs.questions.cells_ok.Goals as goal

pub returns-then-not-year_ok : goal.returns-then-not-year_ok
unfolding each_cell
returns-then-not-year_ok c = sym (every_no _ c.args.m c.loop-k.k c.loop-k-test.true (sym (rw add-one at c.year_ok.ensures) ∙ c.if-not-year_ok.true))

pub loop-k-preserved : goal.loop-k-preserved
loop-k-preserved c = every_more _ _ c.loop-k.invariant (sym (rw add-one at c.year_ok.ensures) ∙ c.if-not-year_ok.false)

pub returns : goal.returns
unfolding each_cell
returns c =
    let e : c.loop-k.k ≡ c.args.m = omega arith in
    sym (rw e at c.loop-k.invariant)

pub loop-k-init : goal.loop-k-init
loop-k-init c = every_none _
