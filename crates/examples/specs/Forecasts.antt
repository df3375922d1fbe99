-- Examples of the forecast's sums and of the claim costs. Assumes nothing.
use Rattle.std.specs.Prelude.{◌≡◌, refl, false, ◌∷◌, pos, negsuc, replicate}
use Rattle.std.specs.Float.{fin}
use Rattle.model.specs.PaidReserve.{year_sum}
use Rattle.model.specs.ClaimCosts.{year_inflation}
use Rattle.model.specs.Calls.{forecast_output, accepted_claim_costs, claim_costs_answer}
use Rattle.model.specs.Further.{K, opened_further}
use Rattle.model.specs.declared.Inflation.TheVariants.{BaseYear, NoPaymentsYet, Ratio}

-- demand 3's sums of K: 0 of year 1, and of year 2 the reserve
pub year_sums : (year_sum 2 (forecast_output 2 K 0 1 (replicate 12 (pos 5))) 1 ≡ pos 0) × (year_sum 2 (forecast_output 2 K 0 1 (replicate 12 (pos 5))) 2 ≡ pos 440)
unfolding opened_further year_sum
year_sums = (refl, refl)

-- the claim costs of K: mu is 10, f(1) the number nearest 1000/600, and year 2's inflation
-- (1100/112)/10, each division rounded; N(2) is 112 since halves go to even (02, Job 4)
pub claim_costs_lem : claim_costs_answer 2 K ≡ accepted_claim_costs 0 (record {
  mu = fin false 5 (pos 1);
  factors = fin false 7505999378950827 (negsuc 51) ∷ replicate 19 (fin false 0 (pos 0));
  inflations = year_inflation BaseYear ∷ year_inflation (Ratio (fin false 8846356410906331 (negsuc 52))) ∷ replicate 18 (year_inflation NoPaymentsYet);
})
unfolding opened_further
claim_costs_lem = refl
