-- The products so far are summed.
use Rattle.std.proofs.Common.{◌≡◌, List, ℕ, suc, ◌+◌, ◌-◌, ◌≤◌, ℤ, ◌*ℤ◌}
use Rattle.integers.specs.Sums.{sum}
use Rattle.model.specs.Lists.{at}
use Rattle.solver.proofs.weighed_sum.Given as goal

abbrev pub term : List ℤ → List ℤ → ℕ → ℕ → ℕ → ℤ
term b p first l k = at b (first + k) *ℤ at p (l - (first + k))

abbrev pub invariant-loop-k : goal.invariant-loop-k
invariant-loop-k l = record { most : l.k ≤ suc l.l; summed : l.out ≡ sum (l.k - l.first) (term l.b l.p l.first l.l) }
