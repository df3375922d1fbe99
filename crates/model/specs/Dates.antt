-- 02, Job 5: dates of the Gregorian calendar, their numbers, and the anniversaries of a date.
use Rattle.std.specs.Prelude.{ℕ, suc, ◌+◌, ◌-◌, ◌%◌, Bool, ◌&&◌, ◌||◌, not, cond, List, [], ◌∷◌, leb, eqb, get_or}
use Rattle.model.specs.Lists.{total}
use Rattle.model.specs.declared.Date.{Date}

-- how many days the months have, January to December, February that of a common year
unfoldable pub month_days : List ℕ
month_days = 31 ∷ 28 ∷ 31 ∷ 30 ∷ 31 ∷ 30 ∷ 31 ∷ 31 ∷ 30 ∷ 31 ∷ 30 ∷ 31 ∷ []

-- a leap year: every fourth, but of the hundreds only every fourth (2000; not 1900, 2100 or 2200)
unfoldable pub leap : ℕ → Bool
leap y = eqb (y % 4) 0 && (not (eqb (y % 100) 0) || eqb (y % 400) 0)

-- the days of month k, 1 to 12, in a leap year (l) or a common one; a month 0 or past 12 has none
unfoldable pub month_length : Bool → ℕ → ℕ
month_length l k = cond (eqb k 2 && l) 29 (cond (leb 1 k) (get_or month_days (k - 1) 0) 0)

-- the days of a year
unfoldable pub year_length : Bool → ℕ
year_length l = cond l 366 365

-- there is such a date
unfoldable pub is_date : Date → Bool
is_date d = leb 1 d.day && leb d.day (month_length (leap d.year) d.month)

-- the days of all years before year y, from the year 0 on by the same rule
unfoldable pub days_before_year : ℕ → ℕ
days_before_year y = total y (λ n. year_length (leap n))

-- the days of a year before its month k
unfoldable pub days_before_month : Bool → ℕ → ℕ
days_before_month l k = total (k - 1) (λ n. month_length l (suc n))

-- the number of a date: one day more, one number more
unfoldable pub day_number : Date → ℕ
day_number d = days_before_year d.year + days_before_month (leap d.year) d.month + d.day

-- the day of the month on which day d of month k has its anniversary, in a leap year (l) or a
-- common one: 29 February falls on the 28th in a common year
unfoldable pub anniversary_day : ℕ → ℕ → Bool → ℕ
anniversary_day k d l = cond (eqb k 2 && eqb d 29 && not l) 28 d

-- anniversary t of a date, t years on
unfoldable pub anniversary : Date → ℕ → Date
anniversary d t = record { year = d.year + t; month = d.month; day = anniversary_day d.month d.day (leap (d.year + t)) }
