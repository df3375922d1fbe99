-- 02, Job 5: what of a forecast falls due before a date, and in a window of dates.
use Rattle.std.specs.Prelude.{ℕ, suc, ◌-◌, leb, ℤ, pos, ◌+ℤ◌, ◌-ℤ◌, ◌*ℤ◌}
use Rattle.integers.specs.Sums.{sum}
use Rattle.model.specs.Lists.{at, count}
use Rattle.model.specs.Rounding.{r}
use Rattle.model.specs.Dates.{day_number, anniversary}
use Rattle.year_tally.specs.declared.Tally.{Tally}
use Rattle.model.specs.declared.Date.{Date}

-- the number of anniversary t of the valuation date v: forecast year t + 1 starts on that day, and
-- forecast year t has ended before it
abbrev pub year_start : Date → ℕ → ℕ
year_start v t = day_number (anniversary v t)

-- RBNS and IBNR of the first k forecast years, those of the tally
unfoldable pub full_years : Tally → ℕ → ℤ
full_years t k = sum k (at t.rbns) +ℤ sum k (at t.ibnr)

-- RBNS and IBNR of forecast year k + 1
unfoldable pub year_total : Tally → ℕ → ℤ
year_total t k = at t.rbns k +ℤ at t.ibnr k

-- how many of n forecast years have ended before the day with this number
unfoldable pub years_before : ℕ → Date → ℕ → ℕ
years_before n v day = count n (λ k. leb (year_start v (suc k)) day)

-- the amount due before a day of forecast year k + 1: the full years, and of the current year as
-- much as days of it have passed; all of it rounded once
unfoldable pub due_in_year : Tally → Date → ℕ → ℕ → ℤ
due_in_year t v k day =
    let days = year_start v (suc k) - year_start v k in
    let passed = day - year_start v k in
    r (full_years t k *ℤ pos days +ℤ year_total t k *ℤ pos passed) (pos days)

-- before a day of n forecast years, or the day after them, on which all n are full
unfoldable pub due_before : ℕ → Tally → Date → ℕ → ℤ
due_before n t v day = due_in_year t v (years_before n v day) day

-- the amount of a window: its start is counted, its end is not
unfoldable pub cash_in : ℕ → Tally → Date → Date → Date → ℤ
cash_in n t v start end = due_before n t v (day_number end) -ℤ due_before n t v (day_number start)
