use Rattle.std.proofs.Common.{◌≡◌, pos}
use Rattle.model.specs.Lent.{triangle_in}
use Rattle.model.specs.Lists.{listed}
use Rattle.cells.specs.Weights.{actual_weight}
use Rattle.years.proofs.weights.actual_weights.Given as goal

abbrev pub invariant-loop-k : goal.invariant-loop-k
invariant-loop-k l = l.s ≡ listed 20 l.k (actual_weight (triangle_in 0 l.set) l.i l.g l.latest) (pos 0)
