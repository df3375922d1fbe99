-- `dates::day_number` meets its contract: the sum of its three parts is far below 2^64. Assumes
-- nothing.
use Rattle.std.proofs.Common.{◌+◌, ◌*◌, ◌^◌, ◌≤◌, arith}
use Rattle.dates.specs.DatesLaws.{possible, years_few, months_few, day_few}
use Rattle.dates.proofs.day_number.Goals as goal
use Rattle.dates.proofs.day_number.Goals.{After-days_before_month}

-- the first two parts
few : (c : After-days_before_month) → c.days_before_year.result + c.days_before_month.result ≤ 4 * 10 ^ 6 + 366
few c =
    let d = c.args.date in
    let m : d.month ≤ 13 = omega (arith, (possible d c.requires.0).high) in
    omega (
      arith,
      c.days_before_year.ensures,
      c.days_before_month.ensures,
      years_few d.year c.requires.1,
      months_few c.is_leap-leap.result d.month m,
    )

pub days_before_month-requires : goal.days_before_month-requires
days_before_month-requires c = let p = possible c.args.date c.requires.0 in (p.low, p.high)

pub overflow_add-result : goal.overflow_add-result
overflow_add-result c = omega (arith, few c)

pub overflow_add-result-2 : goal.overflow_add-result-2
overflow_add-result-2 c = omega (arith, few c.before, day_few c.args.date c.requires.0)
