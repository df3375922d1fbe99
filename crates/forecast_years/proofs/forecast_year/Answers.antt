-- `forecast_years::forecast_year` meets its contract. Assumes nothing.
use Rattle.std.proofs.Common.{◌≡◌, ◌∙◌, true, ap, ℕ, suc, ◌+◌, ◌-◌, ◌<◌, ◌≤◌, arith}
use Rattle.model.specs.Dates.{is_date, day_number}
use Rattle.model.specs.Cash.{year_start}
use Rattle.model.specs.Questions.{is_valuation}
use Rattle.model.specs.declared.Date.{Date}
use Rattle.forecast_years.specs.YearsLaws.{Valued, YearOf, valued, year_reached, year_within, some_year, in_year_of, in_year_less}
use Rattle.forecast_years.proofs.forecast_year.Goals as goal

-- of what the call asks
module _ (v d : Date) (day : ℕ) (value : (is_valuation v ≡ true) × (is_date d ≡ true) × (day ≡ day_number d)) (bound : (day_number v ≤ day) × (day ≤ year_start v 38)) where
  is_valued : Valued v
  is_valued = valued v value.0

  after : day_number v ≤ day_number d
  after = omega arith

  reached : v.year ≤ d.year
  reached = year_reached v d is_valued.date value.1 after

  within : d.year - v.year ≤ 38
  within = omega (arith, year_within v d is_valued.date value.1 38 (omega arith))

  -- from the anniversary of the date's year on
  module _ (start : ℕ) (e : start ≡ year_start v (d.year - v.year)) where
    reached_year : (next : ℕ) → next ≡ year_start v (d.year - v.year + 1) → start ≤ day → YearOf v day (d.year - v.year) start next
    reached_year next f h =
        let q : d.year - v.year + 1 ≡ suc (d.year - v.year) = omega arith in
        record {
          in_year_lem = rw value.2 (in_year_of v d is_valued.date value.1 after (omega arith));
          starts = e;
          ends = f ∙ ap (year_start v) q;
        }

    -- and before it
    module _ (h : day < start) where
      to_come : day_number d < year_start v (d.year - v.year)
      to_come = omega arith

      some : 1 ≤ d.year - v.year
      some = some_year v d is_valued.date value.1 after to_come

      year_less : (first : ℕ) → first ≡ year_start v (d.year - v.year - 1) → YearOf v day (d.year - v.year - 1) first start
      year_less first f =
          let q : suc (d.year - v.year - 1) ≡ d.year - v.year = omega (arith, some) in
          record { in_year_lem = rw value.2 (in_year_less v d is_valued.date value.1 after to_come); starts = f; ends = rw q e }

pub overflow_sub-years : goal.overflow_sub-years
overflow_sub-years c = reached _ _ _ c.requires.valuation_value c.requires.valuation_bound

pub year_start-start-requires : goal.year_start-start-requires
year_start-start-requires c =
    let r = c.requires in
    (r.valuation_value.0, omega (arith, within _ _ _ r.valuation_value r.valuation_bound))

pub overflow_sub-ended : goal.overflow_sub-ended
overflow_sub-ended c = some _ _ _ c.requires.valuation_value c.requires.valuation_bound _ c.year_start-start.ensures c.if-day-start.true

pub year_start-requires : goal.year_start-requires
year_start-requires c =
    let r = c.requires in
    (r.valuation_value.0, omega (arith, within _ _ _ r.valuation_value r.valuation_bound))

pub overflow_add-years : goal.overflow_add-years
overflow_add-years c = omega (arith, within _ _ _ c.requires.valuation_value c.requires.valuation_bound)

pub year_start-requires-else-day-start : goal.year_start-requires-else-day-start
year_start-requires-else-day-start c =
    let r = c.requires in
    (r.valuation_value.0, omega (arith, within _ _ _ r.valuation_value r.valuation_bound))

pub returns-then-day-start : goal.returns-then-day-start
returns-then-day-start c =
    year_less _ _ _ c.requires.valuation_value c.requires.valuation_bound _ c.year_start-start.ensures c.if-day-start.true _ c.year_start.ensures

pub returns-else-day-start : goal.returns-else-day-start
returns-else-day-start c =
    reached_year _ _ _ c.requires.valuation_value c.requires.valuation_bound _ c.year_start-start.ensures _ c.year_start-else-day-start.ensures c.if-day-start.false
