-- The years so far are made.
use Rattle.std.proofs.Common.{◌≡◌, List, ℕ, suc, ℤ, Float}
use Rattle.model.specs.Lists.{at, listed}
use Rattle.model.specs.ClaimCosts.{year_inflation}
use Rattle.model.specs.declared.YearInflation.{YearInflation}
use Rattle.model.specs.declared.Inflation.TheVariants.{NoPaymentsYet}
use Rattle.claim_costs.specs.Costs.{cost_at, inflation_of}
use Rattle.claim_costs.proofs.inflations.Given as goal

abbrev pub entry : List ℤ → List Float → Float → ℕ → YearInflation
entry ultimates costs mu k = year_inflation (inflation_of (suc k) (at ultimates k) (cost_at costs k) mu)

abbrev pub invariant-loop-k : goal.invariant-loop-k
invariant-loop-k l = l.out ≡ listed 20 l.k (entry l.ultimates l.costs l.mu) (year_inflation NoPaymentsYet)
