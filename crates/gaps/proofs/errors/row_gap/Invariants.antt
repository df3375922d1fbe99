use Rattle.std.proofs.Common.{◌≡◌, suc}
use Rattle.integers.specs.Sums.{sum}
use Rattle.model.specs.Records.{cell}
use Rattle.gaps.proofs.errors.row_gap.Given as goal

abbrev pub invariant-loop-j : goal.invariant-loop-j
invariant-loop-j l = l.out ≡ sum l.j (λ i. cell l.d (suc l.k) i)
