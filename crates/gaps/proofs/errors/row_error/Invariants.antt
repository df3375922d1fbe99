use Rattle.std.proofs.Common.{◌≡◌, suc, nat_abs}
use Rattle.model.specs.Lists.{total}
use Rattle.model.specs.Records.{cell}
use Rattle.gaps.proofs.errors.row_error.Given as goal

abbrev pub invariant-loop-j : goal.invariant-loop-j
invariant-loop-j l = l.out ≡ total l.j (λ i. nat_abs (cell l.d (suc l.k) i))
