-- Examples of cash by dates (02, Job 5), as the definitions give them. The amounts are those of an
-- independent calculation with big numbers. Assumes nothing.
use Rattle.std.specs.Prelude.{ℕ, ◌≡◌, refl, [], ◌∷◌, ◌++◌, pos, negsuc}
use Rattle.model.specs.Dates.{day_number}
use Rattle.model.specs.Cash.{full_years, year_total, years_before, due_in_year, due_before, cash_in}
use Rattle.model.specs.Calls.{cash_refusal, accepted_cash, refused_cash, cash_answer}
use Rattle.model.specs.Examples.{two}
use Rattle.model.specs.Further.{K, relined, opened_further}
use Rattle.year_tally.specs.declared.Tally.{Tally}
use Rattle.dates.specs.DatesExamples.{date, opened_dates}

unfoldable opened_cash : ℕ
unfolding opened_further opened_dates full_years year_total years_before due_in_year due_before cash_in cash_refusal cash_answer
opened_cash = 0

-- ---- windows

-- K's two forecast years, 502 and 69
unfoldable pub of_k : Tally
of_k = record { rbns = pos 337 ∷ []; ibnr = pos 165 ∷ pos 69 ∷ [] }

-- from 31 December of year 3 on, as it would be in 2023: year 4 has 366 days, of which 183 are over
-- on 1 July; the last day of the first forecast year; both years
pub windows_of-K :
    (cash_in 2 of_k (date 3 12 31) (date 3 12 31) (date 4 7 1) ≡ pos 251) × (cash_in 2 of_k (date 3 12 31) (date 4 12 30) (date 4 12 31) ≡ pos 1)
    × (cash_in 2 of_k (date 3 12 31) (date 3 12 31) (date 5 12 31) ≡ pos 571)
unfolding opened_cash of_k
windows_of-K = (refl, refl, refl)

-- a year from 29 February ends before 28 February; 182 days are less than half of a year like 1900
pub other_years :
    (cash_in 2 of_k (date 4 2 29) (date 4 2 29) (date 5 2 28) ≡ pos 502) × (cash_in 2 of_k (date 100 1 1) (date 100 1 1) (date 100 7 2) ≡ pos 250)
unfolding opened_cash of_k
other_years = (refl, refl)

-- 3 and half of 1 is nearer to no whole number than 4, the even one; and its mirror
unfoldable pub of_halves : Tally
of_halves = record { rbns = pos 3 ∷ pos 0 ∷ []; ibnr = pos 0 ∷ pos 1 ∷ [] }

unfoldable pub of_losses : Tally
of_losses = record { rbns = negsuc 2 ∷ pos 0 ∷ []; ibnr = pos 0 ∷ negsuc 0 ∷ [] }

pub rounded_once :
    (due_before 2 of_halves (date 2 12 31) (day_number (date 4 7 1)) ≡ pos 4) × (due_before 2 of_losses (date 2 12 31) (day_number (date 4 7 1)) ≡ negsuc 3)
unfolding opened_cash of_halves of_losses
rounded_once = (refl, refl)

-- ---- the call

-- the first quarter of 2024; 30 February; and a row without counts, which 9 refuses first. K stands
-- on line 2
pub calls :
    (cash_answer 2 (relined 2 K) 0 1 (date 2023 12 31) (date 2024 1 1) (date 2024 4 1) ≡ accepted_cash 2 (pos 125))
    × (cash_answer 2 (relined 2 K) 0 1 (date 2023 12 31) (date 2024 2 30) (date 2024 4 1) ≡ refused_cash 19)
    × (cash_answer 2 (two 0 0 0 90 ++ two 1 600 400 660) 0 1 (date 2023 12 31) (date 2024 2 30) (date 2024 4 1) ≡ refused_cash 9)
unfolding opened_cash
calls = (refl, refl, refl)
