use Rattle.std.proofs.Common.{◌≡◌, suc}
use Rattle.integers.specs.Sums.{sum}
use Rattle.model.specs.Records.{cell}
use Rattle.gaps.proofs.errors.overall.Given as goal

abbrev pub invariant-loop-k : goal.invariant-loop-k
invariant-loop-k l = l.out ≡ sum l.k (λ i. sum l.n (λ j. cell l.d (suc i) j))
