-- Laws of Dates: one anniversary is a year after the one before. Assumes nothing.
use Rattle.std.specs.Prelude.{ℕ, suc, ◌+◌, ◌≤◌, ◌≡◌, Bool, ◌&&◌, not, cond, leb, eqb}
use Rattle.std.proofs.Math.Path.{refl}
use Rattle.std.proofs.Math.Bool.{true, false}
use native.Mathlib.Omega.{arith}
use borrow.Author.Tests.{eqb-true}
use Rattle.model.specs.ListsLaws.{and_left, and_right}
use Rattle.model.specs.Tests.{by_test}
use Rattle.model.specs.Dates.{leap, year_length, is_date, days_before_year, days_before_month, day_number, anniversary_day, anniversary}
use Rattle.model.specs.declared.Date.{Date}
use Rattle.dates.specs.DatesLaws.{before_leap, year_more, possible, YearApart}

-- of a date's month and day in a year that begins after D days and in the next; l and m say whether
-- these are leap years
module _ (D k day : ℕ) where
  other_day : (l m : Bool) → k ≤ 12 → YearApart (D + days_before_month l k + day) (D + year_length l + days_before_month m k + day)
  unfolding year_length
  other_day true true h = omega arith
  other_day false false h = omega arith
  other_day true false h = let b = before_leap k (omega arith) in by_test (leb 3 k) (λ t. let c = rw t at b in omega arith) (λ t. let c = rw t at b in omega arith)
  other_day false true h = let b = before_leap k (omega arith) in by_test (leb 3 k) (λ t. let c = rw t at b in omega arith) (λ t. let c = rw t at b in omega arith)

  february_29 : (l m : Bool) → k ≡ 2 → day ≡ 29 → YearApart (D + days_before_month l k + cond (not l) 28 day) (D + year_length l + days_before_month m k + cond (not m) 28 day)
  unfolding year_length
  february_29 true true e f = omega arith
  february_29 false false e f = omega arith
  february_29 true false e f = let b = rw e at (before_leap k (omega arith)) in rw e (omega arith)
  february_29 false true e f = let b = rw e at (before_leap k (omega arith)) in rw e (omega arith)

  apart : (c l m : Bool) → (eqb k 2 && eqb day 29) ≡ c → k ≤ 12
      → YearApart (D + days_before_month l k + cond (c && not l) 28 day) (D + year_length l + days_before_month m k + cond (c && not m) 28 day)
  apart true l m e h = february_29 l m (eqb-true k 2 (and_left _ _ e)) (eqb-true day 29 (and_right (eqb k 2) _ e))
  apart false l m e h = other_day l m h

pub anniversaries_apart : (d : Date) (t : ℕ) → is_date d ≡ true → YearApart (day_number (anniversary d t)) (day_number (anniversary d (suc t)))
unfolding day_number anniversary anniversary_day
anniversaries_apart d t e =
    let y : d.year + suc t ≡ suc (d.year + t) = omega arith in
    rw (y, year_more (d.year + t)) (apart (days_before_year (d.year + t)) d.month d.day _ (leap (d.year + t)) (leap (suc (d.year + t))) refl (possible d e).high)
