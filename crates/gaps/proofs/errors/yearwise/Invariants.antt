use Rattle.std.proofs.Common.{◌≡◌, suc, nat_abs}
use Rattle.model.specs.Lists.{total}
use Rattle.model.specs.Records.{cell}
use Rattle.model.specs.BackTest.{year_gap}
use Rattle.gaps.proofs.errors.yearwise.Given as goal

abbrev pub invariant-loop-k : goal.invariant-loop-k
invariant-loop-k l = l.out ≡ total l.k (λ i. nat_abs (year_gap l.n (cell l.d) (suc i)))
