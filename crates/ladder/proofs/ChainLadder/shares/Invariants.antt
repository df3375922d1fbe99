use Rattle.std.proofs.Common.{◌≡◌, pos}
use Rattle.model.specs.Lists.{listed}
use Rattle.ladder.specs.Ladder.{difference}
use Rattle.ladder.proofs.ChainLadder.shares.Given as goal

abbrev pub invariant-loop-k : goal.invariant-loop-k
invariant-loop-k l = l.out ≡ listed 20 l.k (difference l.self.g) (pos 0)
