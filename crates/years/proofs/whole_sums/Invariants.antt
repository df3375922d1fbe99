use Rattle.std.proofs.Common.{◌≡◌}
use Rattle.cells.specs.CellOf.{sums_from}
use Rattle.years.proofs.whole_sums.Given as goal

abbrev pub invariant-loop-k : goal.invariant-loop-k
invariant-loop-k l = l.sums ≡ sums_from l.m l.k l.b l.p
