-- The delays so far are solved, and are in their bounds.
use Rattle.std.proofs.Common.{◌≡◌, true}
use Rattle.model.specs.Lists.{at, every}
use Rattle.model.specs.Delays.{delays_to, delays}
use Rattle.solver.specs.Solved.{held}
use Rattle.solver.proofs.solve.Given as goal

abbrev pub invariant-loop-l : goal.invariant-loop-l
invariant-loop-l l = record { solved : l.p ≡ delays_to l.b l.q l.l; in_bounds : every l.l (λ k. held (at (delays l.m l.b l.q) k)) ≡ true }
