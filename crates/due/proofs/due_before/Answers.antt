-- `due::due_before` meets its contract: the date's forecast year, the days of it, and one rounding
-- of all. Assumes nothing.
use Rattle.std.proofs.Common.{◌≡◌, sym, ◌∙◌, ap₂, true, ℕ, ◌-◌, ◌*◌, ◌^◌, ◌≤◌, ◌<◌, ℤ, pos, nat_abs, to_z, of_z, arith}
use Rattle.std.specs.Int.{w64}
use Rattle.std.proofs.lemmas.Int.{to_z-of_z}
use borrow.Author.Rules.{sfits_of}
use Rattle.std.proofs.Math.Facts.{to_z_pos}
use Rattle.integers.specs.Parts.{◌⋖◌}
use Rattle.model.specs.Dates.{is_date, day_number}
use Rattle.model.specs.Cash.{year_start, full_years, year_total, due_in_year}
use Rattle.model.specs.declared.Date.{Date}
use Rattle.year_tally.specs.declared.Tally.{Tally}
use Rattle.forecast_years.specs.YearsLaws.{InYear, valued, year_within, years_within}
use Rattle.due.specs.DueLaws.{days, some_days, days_above, full_small, year_small, due_is, due_small}
use Rattle.due.proofs.due_before.Goals as goal
use Rattle.due.proofs.due_before.Goals.{After-forecast_year-year, After-year_total-total, Start}

module _ (c : Start) where
  abbrev v : Date
  v = c.args.valuation

  abbrev date : Date
  date = c.args.date

  abbrev t : Tally
  t = c.args.tally.now

  is_date_lem : is_date v ≡ true
  is_date_lem = (valued v c.requires.valuation_value.0).date

  date_year : date.year ≤ 9999
  date_year = omega (arith, (valued v c.requires.valuation_value.0).to, year_within v date is_date_lem c.requires.valuation_value.1 38 c.requires.valuation_bound.1)

-- the forecast year, its days and those that have passed
module _ (c : After-forecast_year-year) where
  abbrev start : Start
  start = c.before.before

  abbrev k : ℕ
  k = c.forecast_year-year.result.ended

  abbrev day : ℕ
  day = day_number (date start)

  in_year_lem : InYear (v start) k day
  in_year_lem = rw c.day_number-day.ensures at c.forecast_year-year.ensures.in_year_lem

  few : k ≤ 38
  few = years_within (v start) (is_date_lem start) 38 k day in_year_lem start.requires.valuation_bound.1

  abbrev made_days : ℕ
  made_days = c.forecast_year-year.result.next - c.forecast_year-year.result.start

  abbrev made_passed : ℕ
  made_passed = c.day_number-day.result - c.forecast_year-year.result.start

  days_are : made_days ≡ days (v start) (is_date_lem start) k
  days_are = ap₂ ◌-◌ c.forecast_year-year.ensures.ends c.forecast_year-year.ensures.starts

  passed_are : made_passed ≡ day - year_start (v start) k
  passed_are = ap₂ ◌-◌ c.day_number-day.ensures c.forecast_year-year.ensures.starts

  days_most : made_days ≤ 366
  days_most = omega (arith, days_are, (some_days (v start) (is_date_lem start) k).1)

  passed_most : made_passed ≤ made_days
  passed_most = omega (arith, days_are, passed_are, in_year_lem.goes_on)

  days_back : to_z w64 made_days ≡ pos made_days
  days_back = let h : made_days < 2 ^ 63 = omega (arith, days_most) in to_z_pos w64 h

  passed_back : to_z w64 made_passed ≡ pos made_passed
  passed_back = let h : made_passed < 2 ^ 63 = omega (arith, passed_most, days_most) in to_z_pos w64 h

-- the full years and the current one
module _ (c : After-year_total-total) where
  abbrev year : After-forecast_year-year
  year = c.before.before.before.before

  full_is : to_z w64 (of_z w64 c.full_years-full.result) ≡ full_years (t (start year)) (k year)
  full_is = to_z-of_z w64 _ (sfits_of c.full_years-full.type_inv) ∙ c.full_years-full.ensures

  total_is : to_z w64 (of_z w64 c.year_total-total.result) ≡ year_total (t (start year)) (k year)
  total_is = to_z-of_z w64 _ (sfits_of c.year_total-total.type_inv) ∙ c.year_total-total.ensures

-- what `round_share` asks, of these four numbers
small : (y : After-forecast_year-year) {whole part passed days : ℤ} → whole ≡ full_years (t (start y)) (k y) → part ≡ year_total (t (start y)) (k y) → passed ≡ pos (made_passed y) → days ≡ pos (made_days y)
    → ((pos 0 ⋖ days) × (nat_abs days ≤ 1000) × (nat_abs passed ≤ nat_abs days)) × ((nat_abs whole ≤ 4 * 10 ^ 18) × (nat_abs part ≤ 10 ^ 18))
small y full total passed days =
    let s = start y in
    let p = s.requires.modest in
    rw (full, total, passed, days) (
      (rw (days_are y) (days_above (v s) (is_date_lem s) (k y)), omega (arith, days_most y), passed_most y),
      (omega (arith, full_small (t s) p.0 p.1 (k y) (few y)), omega (arith, year_small (t s) p.0 p.1 (k y))),
    )

pub round_share-requires : goal.round_share-requires
round_share-requires c =
    let s = small (year c) (full_is c) (total_is c) (passed_back (year c)) (days_back (year c)) in
    record { pos = s.0; whole_bound = s.1 }

pub returns : goal.returns
unfolding due_in_year
returns c =
    let y = year c.before in
    let s = start y in
    let p = s.requires.modest in
    let e : to_z w64 (of_z w64 c.round_share.result) ≡ due_in_year (t s) (v s) (k y) (day y) =
    to_z-of_z w64 _ (sfits_of c.round_share.type_inv)
    ∙ rw (days_back y, passed_back y, full_is c.before, total_is c.before, days_are y, passed_are y) at c.round_share.ensures in
    record {
      amount = λ n h. e ∙ sym (due_is (t s) (v s) (is_date_lem s) (k y) n (day y) (in_year_lem y) h);
      small = rw e (due_small (t s) (v s) (is_date_lem s) (k y) p.0 p.1 (few y) (day y) (in_year_lem y));
    }

pub day_number-day-requires : goal.day_number-day-requires
day_number-day-requires c = (c.requires.valuation_value.1, date_year c)

pub full_years-full-requires : goal.full_years-full-requires
full_years-full-requires c = let y = c.before.before in ((start y).requires.modest.0, (start y).requires.modest.1, few y)

pub overflow_cast-passed : goal.overflow_cast-passed
overflow_cast-passed c = record { sfits = omega (arith, passed_most (year c), days_most (year c)) }

pub overflow_cast-days : goal.overflow_cast-days
overflow_cast-days c = record { sfits = omega (arith, days_most (year c)) }
