use Rattle.std.proofs.Common.{◌≡◌}
use Rattle.tally.specs.YearRows.{years_to}
use Rattle.tally.proofs.tally_of.Given as goal

abbrev pub invariant-loop-k : goal.invariant-loop-k
invariant-loop-k l = l.t ≡ years_to l.m l.out l.k
