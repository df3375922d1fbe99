-- 01, Claim-cost card: binary64 is that of lib.Ieee.
use Rattle.std.specs.Prelude.{ℕ, suc, ◌-◌, false, cond, eqb, ℤ, pos, replicate}
use lib.Ieee.{Float, fin, binary64, div, of_int}
use Rattle.model.specs.Lists.{listed}
use Rattle.model.specs.Shares.{A, B, ultimate}
use Rattle.model.specs.RowBases.{is_zero}
use Rattle.model.specs.declared.TriangleSet.{TriangleSet}
use Rattle.model.specs.declared.ClaimCosts.{ClaimCosts}
use Rattle.model.specs.declared.YearInflation.{YearInflation}
use Rattle.model.specs.declared.Inflation.{Inflation}
use Rattle.model.specs.declared.Inflation.TheVariants.{BaseYear, NoPaymentsYet, Ratio}

-- two whole numbers as binary64, and their quotient, rounded once
unfoldable pub quotient : ℤ → ℤ → Float
quotient x y = div binary64 (of_int binary64 x) (of_int binary64 y)

-- 0 as binary64
abbrev pub no_float : Float
no_float = fin false 0 (pos 0)

-- year i's mean cost, U(i) / N(i)
unfoldable pub mean_cost : ℕ → TriangleSet → ℕ → Float
mean_cost m s i = quotient (ultimate m s.paid i) (ultimate m s.counts i)

-- f(j), B(j) / A(j) of paid
unfoldable pub factor : ℕ → TriangleSet → ℕ → Float
factor m s j = quotient (B m s.paid j) (A m s.paid j)

-- year i's inflation: year 1 is the base, a year with U(i) = 0 has no payments yet, any other has
-- the ratio of its mean cost to year 1's, rounded once more
unfoldable pub inflation : ℕ → TriangleSet → ℕ → Inflation
inflation m s i =
    cond (eqb i 1) BaseYear
    (cond (is_zero (ultimate m s.paid i)) NoPaymentsYet (Ratio (div binary64 (mean_cost m s i) (mean_cost m s 1))))

-- an inflation as an element of a list
abbrev pub year_inflation : Inflation → YearInflation
year_inflation x = record { value = x }

-- the card: mu is year 1's mean cost, f(j) stands at place j - 1, year i's inflation at place i - 1
unfoldable pub claim_costs : ℕ → TriangleSet → ClaimCosts
claim_costs m s =
    record {
      mu = mean_cost m s 1;
      factors = listed 20 (m - 1) (λ k. factor m s (suc k)) no_float;
      inflations = listed 20 m (λ k. year_inflation (inflation m s (suc k))) (year_inflation NoPaymentsYet);
    }

-- the card beside a refusal
unfoldable pub no_claim_costs : ClaimCosts
no_claim_costs = record { mu = no_float; factors = replicate 20 no_float; inflations = replicate 20 (year_inflation NoPaymentsYet) }
