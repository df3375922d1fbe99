use Rattle.std.proofs.Common.{◌≡◌, suc, pos}
use Rattle.model.specs.Lists.{listed}
use Rattle.model.specs.Lent.{triangle_in}
use Rattle.model.specs.Shares.{latest}
use Rattle.ladder.proofs.sums.latest_sums.Given as goal

abbrev pub invariant-loop-k : goal.invariant-loop-k
invariant-loop-k l = l.latest ≡ listed 20 l.k (λ i. latest l.m (triangle_in l.kind l.set) (suc i)) (pos 0)
