use Rattle.std.proofs.Common.{◌≡◌, leb}
use Rattle.integers.specs.Sums.{sum}
use Rattle.cells.specs.PairLaws.{term}
use Rattle.cells.proofs.pair_sum.Given as goal

abbrev pub invariant-loop-k : goal.invariant-loop-k
invariant-loop-k l = l.sum ≡ sum l.k (term l.m l.j (λ i. leb i l.n) l.x l.p)
