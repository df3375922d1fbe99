use Rattle.std.proofs.Common.{◌≡◌, suc, ◌-◌}
use Rattle.model.specs.Lists.{total}
use Rattle.gaps.proofs.errors.cell_number.Given as goal

abbrev pub invariant-loop-k : goal.invariant-loop-k
invariant-loop-k l = l.out ≡ total l.k (λ i. l.n - suc i)
