-- Examples of dates and of question 19 (02, Job 5), as the definitions give them. Assumes nothing.
use Rattle.std.specs.Prelude.{ℕ, suc, ◌+◌, ◌≡◌, refl, true, false, ◌&&◌, not, [], ◌∷◌}
use Rattle.model.specs.Lists.{total, tabulate}
use Rattle.model.specs.Dates.{month_days, leap, month_length, year_length, is_date, days_before_year, days_before_month, day_number, anniversary_day, anniversary}
use Rattle.model.specs.Questions.{is_valuation, in_years, q19}
use Rattle.model.specs.declared.Date.{Date}

abbrev pub date : ℕ → ℕ → ℕ → Date
date y m d = record { year = y; month = m; day = d }

unfoldable pub opened_dates : ℕ
unfolding
    total tabulate month_days leap month_length year_length is_date days_before_year days_before_month day_number anniversary_day anniversary is_valuation in_years q19
opened_dates = 0

-- ---- dates

pub leap_years : (leap 2000 && leap 2024 && not (leap 1900) && not (leap 2100) && not (leap 2200) && not (leap 2023)) ≡ true
unfolding opened_dates
leap_years = refl

pub possible_dates : (is_date (date 2024 2 29) && is_date (date 2000 2 29) && is_date (date 2023 12 31)) ≡ true
unfolding opened_dates
possible_dates = refl

pub impossible_dates :
    (is_date (date 1900 2 29) ≡ false) × (is_date (date 2023 2 29) ≡ false) × (is_date (date 2023 4 31) ≡ false)
    × (is_date (date 2023 13 1) ≡ false) × (is_date (date 2023 0 1) ≡ false) × (is_date (date 2023 1 0) ≡ false)
unfolding opened_dates
impossible_dates = (refl, refl, refl, refl, refl, refl)

-- the days before each month of a common year, and before March and December of a leap year
pub months :
    (tabulate 12 (λ k. days_before_month false (suc k)) ≡ 0 ∷ 31 ∷ 59 ∷ 90 ∷ 120 ∷ 151 ∷ 181 ∷ 212 ∷ 243 ∷ 273 ∷ 304 ∷ 334 ∷ [])
    × (days_before_month true 3 ≡ 60) × (days_before_month true 12 ≡ 335)
unfolding opened_dates
months = (refl, refl, refl)

-- 1 January 2000 is day 730,120 of the count that starts with year 1, before which year 0 has 366
-- days; and 1900 has no 29 February, where 2000 has one
pub numbers :
    (day_number (date 2000 1 1) ≡ 730120 + 366) × (day_number (date 2000 3 1) ≡ 2 + day_number (date 2000 2 28))
    × (day_number (date 1900 3 1) ≡ 1 + day_number (date 1900 2 28)) × (day_number (date 2237 12 31) ≡ 123451 + day_number (date 1900 1 1))
unfolding opened_dates
numbers = (refl, refl, refl, refl)

-- 29 February in common years and in leap years; 28 February in a leap year
pub anniversaries :
    (anniversary (date 2004 2 29) 1 ≡ date 2005 2 28) × (anniversary (date 2004 2 29) 4 ≡ date 2008 2 29)
    × (anniversary (date 2096 2 29) 4 ≡ date 2100 2 28) × (anniversary (date 2003 2 28) 1 ≡ date 2004 2 28)
unfolding opened_dates
anniversaries = (refl, refl, refl, refl)

-- ---- question 19

-- of m = 2: the first day and the last, the empty window, and the day after the last as an end
pub accepted_windows :
    (q19 2 (date 2023 12 31) (date 2023 12 31) (date 2025 12 31) && q19 2 (date 2023 12 31) (date 2025 12 30) (date 2025 12 31)
    && q19 2 (date 2023 12 31) (date 2025 12 30) (date 2025 12 30) && q19 20 (date 2199 12 31) (date 2237 12 30) (date 2237 12 31)) ≡ true
unfolding opened_dates
accepted_windows = refl

-- that day as a start, the day after it as an end, a start before the valuation date, an end before
-- the start, and the years 1899 and 2200
pub refused_windows :
    (q19 2 (date 2023 12 31) (date 2025 12 31) (date 2025 12 31) ≡ false) × (q19 2 (date 2023 12 31) (date 2024 1 1) (date 2026 1 1) ≡ false)
    × (q19 2 (date 2023 12 31) (date 2023 12 30) (date 2024 1 1) ≡ false) × (q19 2 (date 2023 12 31) (date 2024 1 2) (date 2024 1 1) ≡ false)
    × (q19 2 (date 1899 12 31) (date 1900 1 1) (date 1900 1 2) ≡ false) × (q19 2 (date 2200 1 1) (date 2200 1 1) (date 2200 1 2) ≡ false)
unfolding opened_dates
refused_windows = (refl, refl, refl, refl, refl, refl)
