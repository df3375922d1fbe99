use Rattle.std.proofs.Common.{◌≡◌, ◌+◌}
use Rattle.integers.specs.Sums.{sum}
use Rattle.gaps.specs.Gaps.{row_in_year}
use Rattle.gaps.proofs.errors.year_gap.Given as goal

abbrev pub invariant-loop-k : goal.invariant-loop-k
invariant-loop-k l = l.out ≡ sum l.k (λ i. row_in_year l.d l.n i (l.n + l.t))
