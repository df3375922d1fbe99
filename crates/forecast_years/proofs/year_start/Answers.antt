-- `forecast_years::year_start` meets its contract. Assumes nothing.
use Rattle.std.proofs.Common.{arith}
use Rattle.dates.specs.DatesLaws.{anniversary_is_date}
use Rattle.forecast_years.specs.YearsLaws.{valued, anniversary_year}
use Rattle.forecast_years.proofs.year_start.Goals as goal

pub anniversary-requires : goal.anniversary-requires
anniversary-requires c = omega (arith, (valued _ c.requires.0).to)

pub day_number-requires : goal.day_number-requires
day_number-requires c =
    let v = c.args.valuation in
    let i = valued v c.requires.0 in
    rw c.anniversary.ensures (anniversary_is_date v c.args.t i.date, rw (anniversary_year v c.args.t) (omega (arith, i.to)))
