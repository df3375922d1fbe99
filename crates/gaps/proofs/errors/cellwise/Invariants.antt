use Rattle.std.proofs.Common.{◌≡◌, suc, nat_abs}
use Rattle.model.specs.Lists.{total}
use Rattle.model.specs.Records.{cell}
use Rattle.gaps.proofs.errors.cellwise.Given as goal

abbrev pub invariant-loop-k : goal.invariant-loop-k
invariant-loop-k l = l.out ≡ total l.k (λ i. total l.n (λ j. nat_abs (cell l.d (suc i) j)))
