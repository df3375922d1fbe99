-- `forecast_years::in_years` meets its contract: no forecast year goes past 2237, and the numbers
-- of the dates are compared. Assumes nothing.
use Rattle.std.proofs.Common.{◌≡◌, true, ◌&&◌, ltb, ◌-◌, ◌*◌, ◌<◌, arith, ⊎_elim}
use Rattle.std.proofs.Math.Bool.{and-false}
use Rattle.std.proofs.Math.Dec.{leb}
use borrow.Author.Tests.{lt-leb, le-ltb}
use Rattle.model.specs.Dates.{is_date, day_number}
use Rattle.model.specs.Cash.{year_start}
use Rattle.model.specs.Questions.{in_years}
use Rattle.model.specs.declared.Date.{Date}
use Rattle.forecast_years.specs.YearsLaws.{valued, after_anniversary}
use Rattle.forecast_years.proofs.in_years.Goals as goal

pub returns-then-start-gt2237 : goal.returns-then-start-gt2237
unfolding in_years
returns-then-start-gt2237 c =
    let v = c.args.valuation in
    let i = valued v c.requires.0 in
    let from = day_number c.args.start in
    let to = day_number c.args.end in
    let last = year_start v (2 * c.args.m - 2) in
    -- a date past 2237 lies past the forecast years
    let too_late : (d : Date) → is_date d ≡ true → 2237 < d.year → last < day_number d = λ d e h. after_anniversary v d i.date e (2 * c.args.m - 2) (omega (arith, i.to, c.requires.4)) in
    ⊎_elim
    (λ h. rw (le-ltb from last (omega (arith, too_late c.args.start c.requires.1 h)), and-false (leb (day_number v) from && leb from to)))
    (λ h. rw (lt-leb to last (too_late c.args.end c.requires.2 h.1), and-false (leb (day_number v) from && leb from to && ltb from last)))
    c.then-start-gt2237.either

pub day_number-requires : goal.day_number-requires
day_number-requires c = let i = valued c.args.valuation c.requires.0 in (i.date, omega (arith, i.to))
