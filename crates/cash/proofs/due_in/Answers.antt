-- `cash::due_in` meets its contract: questions 1 to 6, the forecast of the set, question 19, and
-- what is due before the two dates. Assumes nothing.
use Rattle.std.proofs.Common.{◌≡◌, refl, sym, ◌∙◌, ap, ap₂, ℕ, ◌-◌, ◌*◌, ◌^◌, ◌≤◌, arith, List, ℤ, ◌-ℤ◌, nat_abs, w64, to_z, of_z, to_z-of_z}
use Rattle.integers.specs.Order.{nat_abs--ℤ}
use Rattle.model.specs.Records.{set_of}
use Rattle.model.specs.Delays.{delays_of}
use Rattle.model.specs.Lent.{lent_set}
use Rattle.model.specs.Cells.{size}
use Rattle.model.specs.CellsLaws.{size_most}
use Rattle.model.specs.Calendar.{tally_of}
use Rattle.model.specs.Cash.{year_start, cash_in}
use Rattle.model.specs.Calls.{zeros, file_tally}
use Rattle.model.specs.declared.Date.{Date}
use Rattle.refusals.specs.RefusalsLaws.{not_accepted, handed_on}
use Rattle.rounding.specs.Words.{fits_abs}
use Rattle.set_forecast.specs.SetForecast.{Answered, set_refusal}
use Rattle.forecast.specs.ReadFile.{ReadToForecast, passed_settings, read_sized, read_in_range}
use Rattle.forecast.specs.SmallEntries.{set_number, set_forecast, set_small}
use Rattle.tally.specs.YearSums.{Small}
use Rattle.tally.specs.YearRows.{Modest, tally_modest}
use Rattle.forecast_years.specs.YearsLaws.{Window, window, valued, starts_most}
use Rattle.cash.specs.CashCall.{by_settings, by_set, by_dates, accepted}
use Rattle.cash.proofs.due_in.Goals as goal

-- ---- the file is read, and the forecast of its set is answered with n
module _ {m : ℕ} {f : List ℕ} {method basis : ℕ} {set : List ℤ} (read : ReadToForecast m f method basis 0 set) where
  abbrev Made : ℕ → List ℤ → List ℤ → List ℤ → Type 0
  Made n left lefts out =
      let s = lent_set (set_of m f) set in
      Answered (set_refusal m s method) m s (delays_of m s) method basis n left lefts (zeros 1560) out

  module _ {n : ℕ} {left lefts out : List ℤ} (made : Made n left lefts out) where
    number : n ≡ set_refusal m (set_of m f) method
    number = set_number m f method basis (passed_settings read refl) (read.holds refl) made

    module _ (z : n ≡ 0) where
      small : (2 ≤ m) × (m ≤ 20) × (size m ≤ 1560) × Small m out
      small = set_small m f method basis (passed_settings read refl) (read.holds refl) made z

      modest : Modest (tally_of m out).rbns × Modest (tally_of m out).ibnr
      modest = tally_modest m out small.1 small.3

      tally : tally_of m out ≡ file_tally m f method basis
      unfolding file_tally
      tally = ap (tally_of m) (set_forecast m f method basis (passed_settings read refl) (read.holds refl) made z)

-- ---- the last of the forecast years is at most the 38th
last : {m : ℕ} {v a b : Date} → Window m v a b → m ≤ 20 → year_start v (2 * m - 2) ≤ year_start v 38
last {m} {v} w few = starts_most v (valued v w.valuation).date (2 * m - 2) 38 (omega arith)

-- ---- the amounts due before two dates, less one another
less : {x y p q : ℤ} → nat_abs x ≤ 4 * 10 ^ 18 → nat_abs y ≤ 4 * 10 ^ 18 → x ≡ p → y ≡ q → to_z w64 (of_z w64 (to_z w64 (of_z w64 x) -ℤ to_z w64 (of_z w64 y))) ≡ p -ℤ q
less {x} {y} small_x small_y e f =
    let a = to_z-of_z {w = w64} (fits_abs {z = x} (omega arith)) in
    let b = to_z-of_z {w = w64} (fits_abs {z = y} (omega arith)) in
    rw (a, b) (to_z-of_z {w = w64} (fits_abs (omega (arith, nat_abs--ℤ x y))) ∙ ap₂ ◌-ℤ◌ e f)

pub returns-in_err-read_to_forecast-clause-value : goal.returns-in_err-read_to_forecast-clause-value
returns-in_err-read_to_forecast-clause-value c =
    let e = c.in_err-read_to_forecast.ensures.refusal in
    handed_on _ _ c.from_residual.ensures.1 ∙ e ∙ sym (by_settings _ _ _ _ _ _ _ (λ z. not_accepted _ (e ∙ z)))

pub forecast_set-requires : goal.forecast_set-requires
forecast_set-requires c = let r = c.in_ok-read_to_forecast.ensures in (read_in_range r refl, size_most _ (read_sized r refl).1)

pub returns-in_err-forecast_set-clause-value : goal.returns-in_err-forecast_set-clause-value
returns-in_err-forecast_set-clause-value c =
    let r = c.in_ok-read_to_forecast.ensures in
    let e = number r (c.in_err-forecast_set.ensures.fact (set_of c.args.m c.args.file.now)) in
    handed_on _ _ c.from_residual-in_err-forecast_set.ensures.1 ∙ e ∙ sym (by_set _ _ _ _ _ _ _ (passed_settings r refl) (λ z. not_accepted _ (e ∙ z)))

pub q19-requires : goal.q19-requires
q19-requires c = read_sized c.in_ok-read_to_forecast.ensures refl

pub returns-then-not-q19-clause-value : goal.returns-then-not-q19-clause-value
returns-then-not-q19-clause-value c =
    let r = c.in_ok-read_to_forecast.ensures in
    let e = number r (c.in_ok-forecast_set.ensures.fact (set_of c.args.m c.args.file.now)) in
    sym (by_dates _ _ _ _ _ _ _ (passed_settings r refl) (sym e) (sym c.if-not-q19.ensures))

pub tally_of-t-requires : goal.tally_of-t-requires
tally_of-t-requires c =
    let s = small c.in_ok-read_to_forecast.ensures (c.in_ok-forecast_set.ensures.fact (set_of c.args.m c.args.file.now)) refl in
    (s.0, s.1, omega (arith, s.2, c.forecast_set.auto), s.3)

pub due_before-due-requires : goal.due_before-due-requires
due_before-due-requires c =
    let r = c.in_ok-read_to_forecast.ensures in
    let w = window _ _ _ _ (sym c.if-not-q19.ensures) in
    record {
      modest = rw c.tally_of-t.ensures (modest r (c.in_ok-forecast_set.ensures.fact (set_of c.args.m c.args.file.now)) refl);
      valuation_value = (w.valuation, w.end_date);
      valuation_bound = (omega (arith, w.after_valuation, w.ordered), omega (arith, w.ends_within, last w (read_sized r refl).1));
    }

pub due_before-before-requires : goal.due_before-before-requires
due_before-before-requires c =
    let r = c.in_ok-read_to_forecast.ensures in
    let w = window _ _ _ _ (sym c.if-not-q19.ensures) in
    record {
      modest = rw c.tally_of-t.ensures (modest r (c.in_ok-forecast_set.ensures.fact (set_of c.args.m c.args.file.now)) refl);
      valuation_value = (w.valuation, w.start_date);
      valuation_bound = (w.after_valuation, omega (arith, w.starts_within, last w (read_sized r refl).1));
    }

pub returns-clause-value : goal.returns-clause-value
returns-clause-value c =
    let r = c.in_ok-read_to_forecast.ensures in
    let e = number r (c.in_ok-forecast_set.ensures.fact (set_of c.args.m c.args.file.now)) in
    sym (accepted _ _ _ _ _ _ _ (passed_settings r refl) (sym e) (sym c.if-not-q19.ensures))

pub returns-clause-amount : goal.returns-clause-amount
unfolding cash_in
returns-clause-amount c =
    let t = tally c.in_ok-read_to_forecast.ensures (c.in_ok-forecast_set.ensures.fact (set_of c.args.m c.args.file.now)) refl in
    let w = window _ _ _ _ (sym c.if-not-q19.ensures) in
    let due = c.due_before-due.ensures in
    let before = c.due_before-before.ensures in
    rw (← t, ← c.tally_of-t.ensures) (less due.small before.small (due.amount _ w.ends_within) (before.amount _ (omega (arith, w.starts_within))))
