use Rattle.std.proofs.Common.{◌≡◌, true}
use Rattle.model.specs.Lists.{every}
use Rattle.model.specs.Records.{cell, in_range}
use Rattle.set_file.proofs.questions.year_ok.Given as goal

abbrev pub invariant-loop-j : goal.invariant-loop-j
invariant-loop-j l = every l.j (λ j. in_range l.kind (cell l.cells l.year j)) ≡ true
