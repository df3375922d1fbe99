-- The delays so far are placed, are in range and solve their lines.
use Rattle.std.proofs.Common.{◌≡◌, true, pos}
use Rattle.model.specs.Lists.{at, every, listed}
use Rattle.model.specs.Delays.{solves_at}
use Rattle.solver.specs.Solved.{held}
use Rattle.solver.proofs.checked.Given as goal

abbrev pub invariant-loop-l : goal.invariant-loop-l
invariant-loop-l l = record {
  placed : l.p ≡ listed 20 l.l (at l.lent) (pos 0);
  in_bounds : every l.l (λ k. held (at l.lent k)) ≡ true;
  solved : every l.l (solves_at l.b l.q l.lent) ≡ true;
}
