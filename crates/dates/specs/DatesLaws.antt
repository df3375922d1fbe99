-- Laws of Dates: a later date has a higher number, the years by division, and anniversaries, whose
-- distances are in YearsApart of proofs/. Assumes nothing.
use Rattle.std.specs.Prelude.{ℕ, zero, suc, ◌+◌, ◌-◌, ◌*◌, ◌/◌, ◌%◌, ◌^◌, ◌<◌, ◌≤◌, ◌≡◌, Bool, ◌&&◌, ◌||◌, not, cond, leb, eqb, ltb, get_or}
use Rattle.std.proofs.Math.Path.{refl}
use Rattle.std.proofs.Common.{sym, add-zero, add-suc}
use Rattle.std.proofs.Math.Bool.{true, false}
use native.Mathlib.Omega.{arith}
use borrow.Author.Tests.{ne_eqb, le-leb, lt-leb, leb-true, leb-false, eqb-true, eqb-false, ltb-true, ltb-false}
use Rattle.std.proofs.Math.ListN.{get_or-eq_default}
use Rattle.model.specs.Lists.{total, every}
use Rattle.model.specs.ListsLaws.{every_at, and_left, and_right}
use Rattle.model.specs.Tests.{by_test}
use Rattle.model.specs.Dates.{month_days, leap, month_length, year_length, is_date, days_before_year, days_before_month, day_number, anniversary_day, anniversary}
use Rattle.model.specs.declared.Date.{Date}

-- ---- month lengths

pub month_low : (l : Bool) (k : ℕ) → k < 1 → month_length l k ≡ 0
unfolding month_length
month_low l k h = rw (ne_eqb k 2 (λ e. omega arith), lt-leb 1 k h)

pub month_high : (l : Bool) (k : ℕ) → 12 < k → month_length l k ≡ 0
unfolding month_length month_days
month_high l k h = rw (ne_eqb k 2 (λ e. omega arith), le-leb 1 k (omega arith), get_or-eq_default month_days 0 (let u : 12 ≤ k - 1 = omega arith in u))

-- the table has the months of a common year
pub common_month : (k : ℕ) → 1 ≤ k → month_length false k ≡ get_or month_days (k - 1) 0
unfolding month_length
common_month k h = by_test (eqb k 2) (λ e. rw (e, le-leb 1 k h)) (λ e. rw (e, le-leb 1 k h))

-- the table's rules, computed: a leap year has one day more in February, and so before each month
-- from March on
before_rule : ℕ → Bool
before_rule k = eqb (days_before_month true k) (days_before_month false k + cond (leb 3 k) 1 0)

length_rule : ℕ → Bool
length_rule k = eqb (month_length true k) (month_length false k + cond (eqb k 2) 1 0)

rules : (every 13 before_rule ≡ true) × (every 13 length_rule ≡ true)
unfolding every before_rule length_rule days_before_month month_length month_days total
rules = (refl, refl)

pub before_leap : (k : ℕ) → k ≤ 12 → days_before_month true k ≡ days_before_month false k + cond (leb 3 k) 1 0
unfolding before_rule
before_leap k h = eqb-true _ _ (every_at before_rule 13 k rules.0 (omega arith))

pub before_march : (l : Bool) (k : ℕ) → k < 3 → days_before_month l k ≡ days_before_month false k
before_march false k h = refl
before_march true k h = let b = rw (lt-leb 3 k h) at (before_leap k (omega arith)) in omega arith

pub from_march : (k : ℕ) → 3 ≤ k → k ≤ 12 → days_before_month true k ≡ days_before_month false k + 1
from_march k h l = rw (le-leb 3 k h) at (before_leap k l)

length_leap : (k : ℕ) → k ≤ 12 → month_length true k ≡ month_length false k + cond (eqb k 2) 1 0
unfolding length_rule
length_leap k h = eqb-true _ _ (every_at length_rule 13 k rules.1 (omega arith))

-- the twelve months are the year
pub months_sum : (l : Bool) → days_before_month l 13 ≡ year_length l
unfolding year_length days_before_month month_length month_days total
months_sum true = refl
months_sum false = refl

-- ---- dates

-- a date's month is 1 to 12, and its day one of the month's
pub record Possible (d : Date) : Type 0 where
  pub first : 1 ≤ d.day
  pub last : d.day ≤ month_length (leap d.year) d.month
  pub low : 1 ≤ d.month
  pub high : d.month ≤ 12

pub possible : (d : Date) → is_date d ≡ true → Possible d
unfolding is_date
possible d e =
    let f : 1 ≤ d.day = leb-true _ _ (and_left _ _ e) in
    let l : d.day ≤ month_length (leap d.year) d.month = leb-true _ _ (and_right (leb 1 d.day) _ e) in
    record {
      first = f;
      last = l;
      low = by_test (leb 1 d.month) (leb-true 1 d.month) (λ u. omega (arith, month_low (leap d.year) d.month (leb-false 1 d.month u)));
      high = by_test (leb d.month 12) (leb-true d.month 12) (λ u. omega (arith, month_high (leap d.year) d.month (leb-false d.month 12 u)));
    }

-- ---- the numbers of dates

-- more terms, no less
total_grows : (n k : ℕ) (f : ℕ → ℕ) → total n f ≤ total (n + k) f
unfolding total
total_grows n zero f = rw (add-zero n) (omega arith)
total_grows n (suc k) f = rw (add-suc n k) (omega (arith, total_grows n k f))

total_most : (n k : ℕ) (f : ℕ → ℕ) → n ≤ k → total n f ≤ total k f
total_most n k f h = let e : k ≡ n + (k - n) = omega arith in rw e (total_grows n (k - n) f)

pub year_more : (y : ℕ) → days_before_year (suc y) ≡ days_before_year y + year_length (leap y)
unfolding days_before_year total
year_more y = refl

years_grow : (y z : ℕ) → y ≤ z → days_before_year y ≤ days_before_year z
unfolding days_before_year
years_grow y z h = total_most y z (λ n. year_length (leap n)) h

pub month_none : (l : Bool) → days_before_month l 1 ≡ 0
unfolding days_before_month total
month_none l = refl

pub month_more : (l : Bool) (k : ℕ) → 1 ≤ k → days_before_month l (k + 1) ≡ days_before_month l k + month_length l k
unfolding days_before_month total
month_more l k h =
    let e : k + 1 - 1 ≡ suc (k - 1) = omega arith in
    let q : suc (k - 1) ≡ k = omega arith in
    rw e (rw q)

months_grow : (l : Bool) (j k : ℕ) → j ≤ k → days_before_month l j ≤ days_before_month l k
unfolding days_before_month
months_grow l j k h = total_most (j - 1) (k - 1) (λ n. month_length l (suc n)) (omega arith)

pub months_few : (l : Bool) (k : ℕ) → k ≤ 13 → days_before_month l k ≤ 366
unfolding year_length
months_few true k h = omega (arith, months_grow true k 13 h, months_sum true)
months_few false k h = omega (arith, months_grow false k 13 h, months_sum false)

-- a date stands before every later month of its year, and inside its year
in_month : (d : Date) → is_date d ≡ true → (k : ℕ) → d.month < k → days_before_month (leap d.year) d.month + d.day ≤ days_before_month (leap d.year) k
in_month d e k h =
    let p = possible d e in
    let l = leap d.year in
    omega (arith, p.last, month_more l d.month p.low, months_grow l (d.month + 1) k (omega arith))

in_year_lem : (d : Date) → is_date d ≡ true → days_before_month (leap d.year) d.month + d.day ≤ year_length (leap d.year)
in_year_lem d e = let p = possible d e in rw (months_sum (leap d.year)) at (in_month d e 13 (omega (arith, p.high)))

pub day_few : (d : Date) → is_date d ≡ true → d.day ≤ 366
unfolding year_length
day_few d e = let y = in_year_lem d e in by_test (leap d.year) (λ t. let u = rw t at y in omega arith) (λ t. let u = rw t at y in omega arith)

-- a is earlier than b: by the year, else by the month, else by the day
pub data Earlier (a b : Date) : Type 0 where
  by_year : a.year < b.year → Earlier a b
  by_month : a.year ≡ b.year → a.month < b.month → Earlier a b
  by_day : a.year ≡ b.year → a.month ≡ b.month → a.day < b.day → Earlier a b

-- an earlier date has a lower number
pub number_rises : (a b : Date) → is_date a ≡ true → is_date b ≡ true → Earlier a b → day_number a < day_number b
unfolding day_number
number_rises a b e f (by_year l) = omega (arith, in_year_lem a e, year_more a.year, years_grow (suc a.year) b.year l, (possible b f).first)
number_rises a b e f (by_month y l) = let i = in_month a e b.month l in rw (sym y) (omega (arith, i, (possible b f).first))
number_rises a b e f (by_day y m l) = rw (sym y, sym m) (omega arith)

-- and a lower number is that of an earlier date
module _ (a b : Date) (e : is_date a ≡ true) (f : is_date b ≡ true) where
  same_number : a.year ≡ b.year → a.month ≡ b.month → a.day ≡ b.day → day_number a ≡ day_number b
  unfolding day_number
  same_number y m d = rw (y, m, d)

  not_later : day_number a < day_number b → Earlier b a → ⊥
  not_later l g = omega (arith, number_rises b a f e g)

  -- of two numbers
  module _ (x y : ℕ) {X : Type 0} (low : x < y → X) (same : x ≡ y → X) (high : y < x → X) where
    by_order : X
    by_order =
        by_test (ltb x y) (λ t. low (ltb-true x y t))
        (λ t. by_test (ltb y x) (λ u. high (ltb-true y x u))
        (λ u. let q : x ≡ y = omega (arith, ltb-false x y t, ltb-false y x u) in same q))

  pub lower_is_earlier : day_number a < day_number b → Earlier a b
  lower_is_earlier l =
      by_order a.year b.year by_year
      (λ y. by_order a.month b.month (by_month y)
      (λ m. by_order a.day b.day (by_day y m) (λ d. absurd (omega (arith, same_number y m d))) (λ d. absurd (not_later l (by_day (sym y) (sym m) d))))
      (λ m. absurd (not_later l (by_month (sym y) m))))
      (λ y. absurd (not_later l (by_year y)))

-- ---- the years before a year by division

-- every fourth year has one day more, but every hundredth only where it is a four hundredth
module _ (y : ℕ) where
  fourth : y % 4 ≡ 0 → (suc y + 3) / 4 ≡ (y + 3) / 4 + 1
  fourth e = omega arith

  no_fourth : (y % 4 ≡ 0 → ⊥) → (suc y + 3) / 4 ≡ (y + 3) / 4
  no_fourth e = omega arith

  hundredth : y % 100 ≡ 0 → (suc y + 99) / 100 ≡ (y + 99) / 100 + 1
  hundredth e = omega arith

  no_hundredth : (y % 100 ≡ 0 → ⊥) → (suc y + 99) / 100 ≡ (y + 99) / 100
  no_hundredth e = omega arith

  four_hundredth : y % 400 ≡ 0 → (suc y + 399) / 400 ≡ (y + 399) / 400 + 1
  four_hundredth e = omega arith

  no_four_hundredth : (y % 400 ≡ 0 → ⊥) → (suc y + 399) / 400 ≡ (y + 399) / 400
  no_four_hundredth e = omega arith

  of_hundred : y % 100 ≡ 0 → y % 4 ≡ 0
  of_hundred e = omega arith

  of_four_hundred : y % 400 ≡ 0 → y % 100 ≡ 0
  of_four_hundred e = omega arith

  -- the quotients of the next year, a, b and c, and of this one, p, q and r
  leap_days : year_length (leap y) + (suc y + 99) / 100 + (y + 3) / 4 + (y + 399) / 400 ≡ 365 + (y + 99) / 100 + (suc y + 3) / 4 + (suc y + 399) / 400
  unfolding year_length leap
  leap_days = by_rule (eqb (y % 4) 0) refl (eqb (y % 100) 0) refl (eqb (y % 400) 0) refl
    where
      all_three : (a b c p q r : ℕ) → a ≡ p + 1 → b ≡ q + 1 → c ≡ r + 1 → 366 + b + p + r ≡ 365 + q + a + c
      all_three a b c p q r d e f = omega arith

      two : (a b c p q r : ℕ) → a ≡ p + 1 → b ≡ q + 1 → c ≡ r → 365 + b + p + r ≡ 365 + q + a + c
      two a b c p q r d e f = omega arith

      one : (a b c p q r : ℕ) → a ≡ p + 1 → b ≡ q → c ≡ r → 366 + b + p + r ≡ 365 + q + a + c
      one a b c p q r d e f = omega arith

      none : (a b c p q r : ℕ) → a ≡ p → b ≡ q → c ≡ r → 365 + b + p + r ≡ 365 + q + a + c
      none a b c p q r d e f = omega arith

      by_rule : (a : Bool) → eqb (y % 4) 0 ≡ a → (b : Bool) → eqb (y % 100) 0 ≡ b → (c : Bool) → eqb (y % 400) 0 ≡ c
          → cond (a && (not b || c)) 366 365 + (suc y + 99) / 100 + (y + 3) / 4 + (y + 399) / 400 ≡ 365 + (y + 99) / 100 + (suc y + 3) / 4 + (suc y + 399) / 400
      by_rule true p true q true r = all_three _ _ _ _ _ _ (fourth (eqb-true (y % 4) 0 p)) (hundredth (eqb-true (y % 100) 0 q)) (four_hundredth (eqb-true (y % 400) 0 r))
      by_rule true p true q false r = two _ _ _ _ _ _ (fourth (eqb-true (y % 4) 0 p)) (hundredth (eqb-true (y % 100) 0 q)) (no_four_hundredth (eqb-false (y % 400) 0 r))
      by_rule true p false q c r =
          let n = eqb-false (y % 100) 0 q in
          one _ _ _ _ _ _ (fourth (eqb-true (y % 4) 0 p)) (no_hundredth n) (no_four_hundredth (λ z. n (of_four_hundred z)))
      by_rule false p b q c r =
          let n = eqb-false (y % 4) 0 p in
          none _ _ _ _ _ _ (no_fourth n) (no_hundredth (λ z. n (of_hundred z))) (no_four_hundredth (λ z. n (of_hundred (of_four_hundred z))))

pub years_by_division : (y : ℕ) → days_before_year y + (y + 99) / 100 ≡ 365 * y + (y + 3) / 4 + (y + 399) / 400
unfolding days_before_year total
years_by_division zero = refl
years_by_division (suc y) = omega (arith, years_by_division y, leap_days y)

pub years_few : (y : ℕ) → y ≤ 9999 → days_before_year y ≤ 4 * 10 ^ 6
years_few y h = omega (arith, years_by_division y)

-- ---- anniversaries

-- one anniversary is 365 or 366 days after the one before
pub record YearApart (m n : ℕ) : Type 0 where
  pub least : m + 365 ≤ n
  pub most : n ≤ m + 366

-- an anniversary is a date
module _ (k day : ℕ) where
  february : (day ≡ 29 → ⊥) → day ≤ month_length true 2 → day ≤ month_length false 2
  unfolding month_length month_days
  february n v = omega arith

  other_fits : (l m : Bool) → k ≤ 12 → (eqb k 2 && eqb day 29) ≡ false → day ≤ month_length l k → day ≤ month_length m k
  other_fits true true h e u = u
  other_fits false false h e u = u
  other_fits false true h e u = omega (arith, length_leap k (omega arith))
  other_fits true false h e u =
      by_test (eqb k 2)
      (λ t. let k2 : k ≡ 2 = eqb-true k 2 t in let n = eqb-false day 29 (rw t at e) in rw k2 (february n (rw k2 at u)))
      (λ t. let b = rw t at (length_leap k (omega arith)) in omega arith)

  anniversary_fits : (c l m : Bool) → (eqb k 2 && eqb day 29) ≡ c → k ≤ 12 → day ≤ month_length l k → cond (c && not m) 28 day ≤ month_length m k
  unfolding month_length month_days
  anniversary_fits true l true e h u = rw (eqb-true k 2 (and_left _ _ e), eqb-true day 29 (and_right (eqb k 2) _ e)) (omega arith)
  anniversary_fits true l false e h u = rw (eqb-true k 2 (and_left _ _ e)) (omega arith)
  anniversary_fits false l m e h u = other_fits l m h e u

  anniversary_first : (c m : Bool) → 1 ≤ day → 1 ≤ cond (c && not m) 28 day
  anniversary_first true false h = omega arith
  anniversary_first true true h = h
  anniversary_first false m h = h

pub anniversary_is_date : (d : Date) (t : ℕ) → is_date d ≡ true → is_date (anniversary d t) ≡ true
unfolding is_date anniversary anniversary_day
anniversary_is_date d t e =
    let p = possible d e in
    let c = eqb d.month 2 && eqb d.day 29 in
    rw (
      le-leb _ _ (anniversary_first d.month d.day c (leap (d.year + t)) p.first),
      le-leb _ _ (anniversary_fits d.month d.day c (leap d.year) (leap (d.year + t)) refl p.high p.last),
    )

-- anniversary 0 is the date
no_29 : (n : ℕ) → n ≤ month_length false 2 → n ≡ 29 → ⊥
unfolding month_length month_days
no_29 n u q = omega arith

same_day : (k n : ℕ) (l : Bool) → n ≤ month_length l k → anniversary_day k n l ≡ n
unfolding anniversary_day
same_day k n l u = go (eqb k 2 && eqb n 29) l refl u
  where
    go : (c l : Bool) → (eqb k 2 && eqb n 29) ≡ c → n ≤ month_length l k → cond (c && not l) 28 n ≡ n
    go true true q u = refl
    go false l q u = refl
    go true false q u = absurd (no_29 n (rw (eqb-true k 2 (and_left _ _ q)) at u) (eqb-true n 29 (and_right (eqb k 2) _ q)))

pub anniversary_zero : (d : Date) → is_date d ≡ true → anniversary d 0 ≡ d
unfolding anniversary
anniversary_zero d e = rw (add-zero d.year, same_day d.month d.day (leap d.year) (possible d e).last)
