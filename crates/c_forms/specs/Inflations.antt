-- The inflations as lists of numbers: what each is, and its ratio.
use Rattle.std.specs.Prelude.{ℕ, List, get_or, Float}
use Rattle.model.specs.Lists.{tabulate}
use Rattle.model.specs.ClaimCosts.{no_float, year_inflation}
use Rattle.model.specs.declared.YearInflation.{YearInflation}
use Rattle.model.specs.declared.Inflation.{Inflation}
use Rattle.model.specs.declared.Inflation.TheVariants.{BaseYear, NoPaymentsYet, Ratio}

-- the number that the C header gives each case of an inflation
unfoldable pub kind_of : Inflation → ℕ
kind_of BaseYear = 0
kind_of NoPaymentsYet = 1
kind_of (Ratio x) = 2

-- the ratio, 0 where there is none
unfoldable pub ratio_of : Inflation → Float
ratio_of BaseYear = no_float
ratio_of NoPaymentsYet = no_float
ratio_of (Ratio x) = x

-- the inflation at a place of a list of 20
abbrev pub inflation_at : List YearInflation → ℕ → Inflation
inflation_at xs k = (get_or xs k (year_inflation BaseYear)).value

-- year i's at place i - 1
unfoldable pub kinds_of : List YearInflation → List ℕ
kinds_of xs = tabulate 20 (λ k. kind_of (inflation_at xs k))

unfoldable pub ratios_of : List YearInflation → List Float
ratios_of xs = tabulate 20 (λ k. ratio_of (inflation_at xs k))
