-- Laws of the forecast years of a valuation date: the year in which a day lies, how many have ended
-- before it, and what question 19 says. Assumes nothing.
use Prim.Native.Nat.{ℕ, zero, suc, ◌+◌, ◌-◌, ◌*◌, ◌<◌, ◌≤◌}
use Rattle.std.specs.Prelude.{◌≡◌, refl, Bool, true, false, ◌&&◌, ltb}
use Rattle.std.proofs.Common.{ap, add-zero, add-suc}
use native.Mathlib.Omega.{arith}
use borrow.Author.Tests.{le-leb, lt-leb, lt-ltb, leb-true, leb-false, ltb-true}
use Rattle.std.proofs.Math.Dec.{leb}
use Rattle.model.specs.Lists.{total, count}
use Rattle.model.specs.ListsLaws.{and_left, and_right}
use Rattle.model.specs.Tests.{by_test}
use Rattle.model.specs.Dates.{is_date, day_number, anniversary}
use Rattle.model.specs.Cash.{year_start, years_before}
use Rattle.model.specs.Questions.{is_valuation, in_years, q19}
use Rattle.model.specs.declared.Date.{Date}
use Rattle.dates.specs.DatesLaws.{by_year, number_rises, anniversary_is_date, anniversary_zero}
use Rattle.dates.proofs.YearsApart.{anniversaries_apart}

-- what question 19 says of a valuation date
pub record Valued (v : Date) : Type 0 where
  pub date : is_date v ≡ true
  pub from : 1900 ≤ v.year
  pub to : v.year ≤ 2199

pub valued : (v : Date) → is_valuation v ≡ true → Valued v
unfolding is_valuation
valued v e =
    let i = and_left (is_date v && leb 1900 v.year) (leb v.year 2199) e in
    record {
      date = and_left (is_date v) (leb 1900 v.year) i;
      from = leb-true _ _ (and_right (is_date v) (leb 1900 v.year) i);
      to = leb-true _ _ (and_right (is_date v && leb 1900 v.year) (leb v.year 2199) e);
    }

-- a day of forecast year k + 1
pub record InYear (v : Date) (k day : ℕ) : Type 0 where
  pub started : year_start v k ≤ day
  pub goes_on : day < year_start v (suc k)

-- forecast year k + 1 in which a day lies, from its first day to the day after it
pub record YearOf (v : Date) (day k start next : ℕ) : Type 0 where
  pub in_year_lem : InYear v k day
  pub starts : start ≡ year_start v k
  pub ends : next ≡ year_start v (suc k)

-- p says yes to the first k numbers below n and to no other
count_first : (p : ℕ → Bool) (n k : ℕ) → k ≤ n → ((i : ℕ) → i < k → p i ≡ true) → ((i : ℕ) → k ≤ i → i < n → p i ≡ false) → count n p ≡ k
unfolding count total
count_first p zero k h t f = omega arith
count_first p (suc n) k h t f =
    by_test (leb k n)
    (λ e. let l = leb-true k n e in rw (f n l (omega arith)) (omega (arith, count_first p n k l t (λ i a b. f i a (omega arith)))))
    (λ e. let l = leb-false k n e in rw (t n (omega arith)) (omega (arith, count_first p n n (omega arith) (λ i b. t i (omega arith)) (λ i a b. absurd (omega arith)))))

module _ (v : Date) (e : is_date v ≡ true) where
  pub start_zero : year_start v 0 ≡ day_number v
  start_zero = ap day_number (anniversary_zero v e)

  -- each year has 365 days or 366, so that the years rise
  starts_rise : (t k : ℕ) → year_start v t + k ≤ year_start v (t + k)
  starts_rise t zero = rw (add-zero t) (omega arith)
  starts_rise t (suc k) = rw (add-suc t k) (omega (arith, starts_rise t k, (anniversaries_apart v (t + k) e).least))

  pub starts_order : (t k : ℕ) → t < k → year_start v t < year_start v k
  starts_order t k h = let q : k ≡ t + (k - t) = omega arith in rw q (omega (arith, starts_rise t (k - t)))

  pub starts_most : (t k : ℕ) → t ≤ k → year_start v t ≤ year_start v k
  starts_most t k h = let q : k ≡ t + (k - t) = omega arith in rw q (omega (arith, starts_rise t (k - t)))

  -- the year of a day up to where year n + 1 starts
  pub years_within : (n k day : ℕ) → InYear v k day → day ≤ year_start v n → k ≤ n
  years_within n k day i h = by_test (leb k n) (leb-true k n) (λ f. let l = leb-false k n f in absurd (omega (arith, i.started, starts_order n k l)))

  -- the years that have ended before a day of year k + 1
  pub years_are : (n k day : ℕ) → InYear v k day → day ≤ year_start v n → years_before n v day ≡ k
  unfolding years_before
  years_are n k day i h =
      count_first (λ t. leb (year_start v (suc t)) day) n k (years_within n k day i h)
      (λ t l. le-leb (year_start v (suc t)) day (omega (arith, i.started, starts_most (suc t) k l)))
      (λ t l u. let o : suc k ≤ suc t = omega arith in lt-leb (year_start v (suc t)) day (omega (arith, i.goes_on, starts_most (suc k) (suc t) o)))

pub anniversary_year : (d : Date) (t : ℕ) → (anniversary d t).year ≡ d.year + t
unfolding anniversary
anniversary_year d t = refl

module _ (v d : Date) (e : is_date v ≡ true) (f : is_date d ≡ true) where
  -- a date of a year before that of an anniversary, and of one after it
  pub before_anniversary : (t : ℕ) → d.year < v.year + t → day_number d < year_start v t
  before_anniversary t h = number_rises d (anniversary v t) f (anniversary_is_date v t e) (by_year (rw (anniversary_year v t) h))

  pub after_anniversary : (t : ℕ) → v.year + t < d.year → year_start v t < day_number d
  after_anniversary t h = number_rises (anniversary v t) d (anniversary_is_date v t e) f (by_year (rw (anniversary_year v t) h))

  -- a date that is not before the valuation date is of no earlier year
  pub year_reached : day_number v ≤ day_number d → v.year ≤ d.year
  year_reached h = by_test (leb v.year d.year) (leb-true _ _) (λ t. let l = leb-false v.year d.year t in absurd (omega (arith, number_rises d v f e (by_year l))))

  -- nor past the forecast years
  pub year_within : (t : ℕ) → day_number d ≤ year_start v t → d.year ≤ v.year + t
  year_within t h = by_test (leb d.year (v.year + t)) (leb-true _ _) (λ u. let l = leb-false d.year (v.year + t) u in absurd (omega (arith, after_anniversary t l)))

  -- the forecast year: as many have ended as the years differ, unless that anniversary is to come
  module _ (reached : day_number v ≤ day_number d) where
    pub in_year_of : year_start v (d.year - v.year) ≤ day_number d → InYear v (d.year - v.year) (day_number d)
    in_year_of h =
        record { started = h; goes_on = before_anniversary (suc (d.year - v.year)) (omega (arith, year_reached reached)) }

    pub some_year : day_number d < year_start v (d.year - v.year) → 1 ≤ d.year - v.year
    some_year h = by_test (leb 1 (d.year - v.year)) (leb-true _ _) (λ t. let l = leb-false 1 (d.year - v.year) t in let z : d.year - v.year ≡ 0 = omega arith in absurd (omega (arith, rw z at h, start_zero v e)))

    pub in_year_less : day_number d < year_start v (d.year - v.year) → InYear v (d.year - v.year - 1) (day_number d)
    in_year_less h =
        let o = some_year h in
        let q : suc (d.year - v.year - 1) ≡ d.year - v.year = omega arith in
        let l = after_anniversary (d.year - v.year - 1) (omega arith) in
        record { started = omega arith; goes_on = rw q h }

-- ---- what question 19 says of a window
pub record Window (m : ℕ) (v a b : Date) : Type 0 where
  pub valuation : is_valuation v ≡ true
  pub start_date : is_date a ≡ true
  pub end_date : is_date b ≡ true
  pub after_valuation : day_number v ≤ day_number a
  pub ordered : day_number a ≤ day_number b
  pub starts_within : day_number a < year_start v (2 * m - 2)
  pub ends_within : day_number b ≤ year_start v (2 * m - 2)

pub window : (m : ℕ) (v a b : Date) → q19 m v a b ≡ true → Window m v a b
unfolding q19 in_years
window m v a b e =
    let x = leb (day_number v) (day_number a) in
    let y = leb (day_number a) (day_number b) in
    let end = year_start v (2 * m - 2) in
    let z = ltb (day_number a) end in
    let w = leb (day_number b) end in
    let e1 = and_left (is_valuation v && is_date a && is_date b) (x && y && z && w) e in
    let e2 = and_left (is_valuation v && is_date a) (is_date b) e1 in
    let f1 = and_right (is_valuation v && is_date a && is_date b) (x && y && z && w) e in
    let f2 = and_left (x && y && z) w f1 in
    let f3 = and_left (x && y) z f2 in
    record {
      valuation = and_left (is_valuation v) (is_date a) e2;
      start_date = and_right (is_valuation v) (is_date a) e2;
      end_date = and_right (is_valuation v && is_date a) (is_date b) e1;
      after_valuation = leb-true _ _ (and_left x y f3);
      ordered = leb-true _ _ (and_right x y f3);
      starts_within = ltb-true _ _ (and_right (x && y) z f2);
      ends_within = leb-true _ _ (and_right (x && y && z) w f1);
    }

pub window_yes : (m : ℕ) (v a b : Date) → Window m v a b → q19 m v a b ≡ true
unfolding q19 in_years
window_yes m v a b w =
    rw (
      w.valuation,
      w.start_date,
      w.end_date,
      le-leb _ _ w.after_valuation,
      le-leb _ _ w.ordered,
      lt-ltb _ _ w.starts_within,
      le-leb _ _ w.ends_within,
    )
