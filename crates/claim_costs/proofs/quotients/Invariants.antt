-- The quotients so far are made.
use Rattle.std.proofs.Common.{◌≡◌, List, ℕ, ℤ, Float}
use Rattle.model.specs.Lists.{at, listed}
use Rattle.model.specs.ClaimCosts as ClaimCosts
use Rattle.model.specs.ClaimCosts.{no_float}
use Rattle.claim_costs.proofs.quotients.Given as goal

abbrev pub entry : List ℤ → List ℤ → ℕ → Float
entry xs ys k = ClaimCosts.quotient (at xs k) (at ys k)

abbrev pub invariant-loop-k : goal.invariant-loop-k
invariant-loop-k l = l.out ≡ listed 20 l.k (entry l.xs l.ys) no_float
