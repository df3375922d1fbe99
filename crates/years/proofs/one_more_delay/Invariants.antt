use Rattle.std.proofs.Common.{◌≡◌}
use Rattle.cells.specs.SumsFromLaws.{partly}
use Rattle.years.proofs.one_more_delay.Given as goal

abbrev pub invariant-loop-l : goal.invariant-loop-l
invariant-loop-l l = l.sums ≡ partly l.m l.k l.b l.p l.l
