-- Laws of the amount due before a day. Assumes nothing.
use Rattle.std.specs.Prelude.{ℕ, suc, ◌-◌, ◌*◌, ◌^◌, ◌≤◌, ◌≡◌, true, List, [], ◌∷◌, ℤ, nat_abs, ◌+ℤ◌, ◌-ℤ◌, ◌*ℤ◌}
use Rattle.std.proofs.Common.{◌∙◌, le_refl}
use Rattle.std.proofs.Math.Nat.{mul-le-mul}
use native.Mathlib.Omega.{arith}
use Rattle.std.proofs.Math.IntN.{pos}
use Rattle.integers.specs.Parts.{◌⋖◌, ints}
use Rattle.integers.specs.Order.{nat_abs-+ℤ, nat_abs-*ℤ}
use Rattle.integers.specs.Solver.{ring, form}
use Rattle.integers.specs.Sums.{sum, sum_zero, sum_suc, sum_nat_abs}
use Rattle.model.specs.Lists.{at}
use Rattle.model.specs.Dates.{is_date}
use Rattle.year_tally.specs.TallyAdd.{fits64}
use Rattle.model.specs.Cash.{year_start, full_years, year_total, due_in_year, due_before}
use Rattle.year_tally.specs.declared.Tally.{Tally}
use Rattle.model.specs.declared.Date.{Date}
use Rattle.rounding.specs.RoundingLaws.{r_exact, r_abs}
use Rattle.tally.specs.YearSums.{below_fits}
use Rattle.tally.specs.YearRows.{Modest}
use Rattle.dates.proofs.YearsApart.{anniversaries_apart}
use Rattle.forecast_years.specs.YearsLaws.{InYear, years_are, starts_most}

-- ---- how large

years_small : (xs : List ℤ) → Modest xs → (k : ℕ) → k ≤ 38 → nat_abs (sum k (at xs)) ≤ 152 * 10 ^ 16
years_small xs h k l = omega (arith, sum_nat_abs k (4 * 10 ^ 16) (at xs) (λ i u. h i))

pub years_fit : (xs : List ℤ) → Modest xs → (k : ℕ) → k ≤ 38 → fits64 (sum k (at xs)) ≡ true
years_fit xs h k l = below_fits (sum k (at xs)) (omega (arith, years_small xs h k l))

module _ (t : Tally) (x : Modest t.rbns) (y : Modest t.ibnr) where
  pub full_small : (k : ℕ) → k ≤ 38 → nat_abs (full_years t k) ≤ 304 * 10 ^ 16
  unfolding full_years
  full_small k h = omega (arith, nat_abs-+ℤ (sum k (at t.rbns)) (sum k (at t.ibnr)), years_small t.rbns x k h, years_small t.ibnr y k h)

  pub year_small : (k : ℕ) → nat_abs (year_total t k) ≤ 8 * 10 ^ 16
  unfolding year_total
  year_small k = omega (arith, nat_abs-+ℤ (at t.rbns k) (at t.ibnr k), x k, y k)

-- ---- the days of a forecast year

module _ (v : Date) (e : is_date v ≡ true) (k : ℕ) where
  abbrev pub days : ℕ
  days = year_start v (suc k) - year_start v k

  pub some_days : (365 ≤ days) × (days ≤ 366)
  some_days = let a = anniversaries_apart v k e in (omega (arith, a.least), omega (arith, a.most))

  pub days_above : pos 0 ⋖ pos days
  days_above = omega (arith, ints, some_days)

-- ---- before a day of forecast year k + 1

module _ (t : Tally) (v : Date) (e : is_date v ≡ true) (k : ℕ) where
  -- of n forecast years
  pub due_is : (n day : ℕ) → InYear v k day → day ≤ year_start v n → due_before n t v day ≡ due_in_year t v k day
  unfolding due_before
  due_is n day i h = rw (years_are v e n k day i h)

  -- where the year starts, the full years are due
  no_day : (full total days : ℤ) → full *ℤ days +ℤ total *ℤ pos 0 ≡ full *ℤ days
  no_day full total days = ring (full ∷ total ∷ days ∷ []) (search form depth 20) tt

  at_start : due_in_year t v k (year_start v k) ≡ full_years t k
  unfolding due_in_year
  at_start =
      let z : year_start v k - year_start v k ≡ 0 = omega arith in
      rw (z, no_day (full_years t k) (year_total t k) (pos (days v e k))) (r_exact (full_years t k) (pos (days v e k)) (days_above v e k))

  pub due_at_start : (n : ℕ) → k ≤ n → due_before n t v (year_start v k) ≡ full_years t k
  due_at_start n h =
      let i : InYear v k (year_start v k) = record { started = omega arith; goes_on = omega (arith, some_days v e k) } in
      due_is n (year_start v k) i (starts_most v e k n h) ∙ at_start

  -- no more than the full years and the current one
  pub due_small : Modest t.rbns → Modest t.ibnr → k ≤ 38 → (day : ℕ) → InYear v k day → nat_abs (due_in_year t v k day) ≤ 4 * 10 ^ 18
  unfolding due_in_year
  due_small x y h day i =
      let D = days v e k in
      let passed = day - year_start v k in
      let full = full_years t k in
      let total = year_total t k in
      let u : passed ≤ D = omega (arith, i.goes_on) in
      r_abs (full *ℤ pos D +ℤ total *ℤ pos passed) (pos D) (4 * 10 ^ 18) (days_above v e k)
      (omega (
        arith,
        nat_abs-+ℤ (full *ℤ pos D) (total *ℤ pos passed),
        nat_abs-*ℤ full (pos D),
        nat_abs-*ℤ total (pos passed),
        mul-le-mul (full_small t x y k h) (le_refl D),
        mul-le-mul (year_small t x y k) u,
      ))

-- ---- full years

module _ (t : Tally) where
  pub no_years : full_years t 0 ≡ pos 0
  unfolding full_years
  no_years = rw (sum_zero (at t.rbns), sum_zero (at t.ibnr))

  pub one_year : (k : ℕ) → full_years t (suc k) -ℤ full_years t k ≡ year_total t k
  unfolding full_years year_total
  one_year k = rw (sum_suc k (at t.rbns), sum_suc k (at t.ibnr)) (last (sum k (at t.rbns)) (at t.rbns k) (sum k (at t.ibnr)) (at t.ibnr k))
    where
      last : (a x b y : ℤ) → (a +ℤ x) +ℤ (b +ℤ y) -ℤ (a +ℤ b) ≡ x +ℤ y
      last a x b y = ring (a ∷ x ∷ b ∷ y ∷ []) (search form depth 20) tt
