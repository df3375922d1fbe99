-- What this crate's functions hand back of a set of size m, and what they ask of the numbers that
-- they divide.
use Rattle.std.specs.Prelude.{ℕ, suc, ◌^◌, ◌≤◌, ◌<◌, cond, List, eqb, ℤ, pos, nat_abs, get_or, Float}
use Rattle.std.specs.Float.{nan, binary64}
use Rattle.std.specs.Float.Ieee.{div}
use Rattle.integers.specs.Parts.{◌⋖◌}
use Rattle.model.specs.Lists.{at, listed}
use Rattle.model.specs.RowBases.{is_zero}
use Rattle.model.specs.ClaimCosts.{no_float, mean_cost, claim_costs}
use Rattle.model.specs.Questions.{first_no, of_shares}
use Rattle.model.specs.Calls.{if_accepted, accepted_claim_costs, refused_claim_costs}
use Rattle.model.specs.declared.TriangleSet.{TriangleSet}
use Rattle.model.specs.declared.ClaimCostsAnswer.{ClaimCostsAnswer}
use Rattle.model.specs.declared.Inflation.{Inflation}
use Rattle.model.specs.declared.Inflation.TheVariants.{BaseYear, NoPaymentsYet, Ratio}

-- two whole numbers that binary64 holds exactly, both below 2^53 in size, the divisor above zero
pub record Exact (x y : ℤ) : Type 0 where
  pub over : nat_abs x < 2 ^ 53
  pub under : nat_abs y < 2 ^ 53
  pub divisor : pos 0 ⋖ y

-- the same at each of the first n places of two lists
pub record AllExact (n : ℕ) (xs ys : List ℤ) : Type 0 where
  pub few : n ≤ 20
  pub places : (k : ℕ) → k < n → Exact (at xs k) (at ys k)

-- the mean costs, year i's at place i - 1
unfoldable pub mean_costs : ℕ → TriangleSet → List Float
mean_costs m s = listed 20 m (λ k. mean_cost m s (suc k)) no_float

-- the number at a place of such a list
abbrev pub cost_at : List Float → ℕ → Float
cost_at xs k = get_or xs k nan

-- the inflation of year i, from its ultimate and its mean cost
unfoldable pub inflation_of : ℕ → ℤ → Float → Float → Inflation
inflation_of i u cost mu = cond (eqb i 1) BaseYear (cond (is_zero u) NoPaymentsYet (Ratio (div binary64 cost mu)))

-- the claim costs, or the number of the first of questions 9 to 11 that gets a no
unfoldable pub costs_of_set : ℕ → TriangleSet → ClaimCostsAnswer
costs_of_set m s = let n = first_no (of_shares m s.counts s.paid) in if_accepted n (accepted_claim_costs s.line (claim_costs m s)) (refused_claim_costs n)
