-- `year_ok` meets its contract: each cell so far passes. Assumes nothing.
use Rattle.std.proofs.Common.{◌≡◌, sym, ap, ◌∙◌, arith, FitsSigned, w64}
use Rattle.std.proofs.Math.Facts.{to_z-of_z}
use Rattle.model.specs.ListsLaws.{every_none, every_more, every_no}
use Rattle.model.specs.Records.{cell, in_range}
use Rattle.set_file.proofs.questions.year_ok.Goals as goal
use Rattle.set_file.proofs.questions.year_ok.Goals.{After-in_range}

tested : (c : After-in_range) → c.in_range.result ≡ in_range c.args.kind (cell c.args.cells.now c.args.year c.loop-j.j)
tested c = let read : FitsSigned w64 (cell c.args.cells.now c.args.year c.loop-j.j) = search in c.in_range.ensures ∙ ap (in_range _) (to_z-of_z read)

pub loop-j-init : goal.loop-j-init
loop-j-init c = every_none _

pub loop-j-preserved : goal.loop-j-preserved
loop-j-preserved c = every_more _ _ c.loop-j.invariant (sym (tested c.before) ∙ c.if-not-in_range.false)

pub returns-then-not-in_range : goal.returns-then-not-in_range
returns-then-not-in_range c = sym (every_no _ c.args.n c.loop-j.j c.loop-j-test.true (sym (tested c.before) ∙ c.if-not-in_range.true))

pub returns : goal.returns
returns c = let e : c.loop-j.j ≡ c.args.n = omega arith in sym (rw e at c.loop-j.invariant)
