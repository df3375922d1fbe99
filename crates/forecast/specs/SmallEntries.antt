-- Every entry of an accepted forecast is at most 2 × 10^15, so that no calendar-year sum leaves 64
-- bits. Assumes nothing.
use Rattle.std.specs.Prelude.{◌≡◌, Bool, true, false, cond, List, ℕ, ◌+◌, ◌-◌, ◌*◌, ◌/◌, ◌%◌, ◌^◌, ◌≤◌, ◌<◌, leb, eqb, ℤ, pos, nat_abs, length}
use Rattle.std.proofs.Common.{sym, ◌∙◌, ap, mul_assoc, div-lt_iff_lt-mul}
use native.Mathlib.Omega.{arith}
use Rattle.model.specs.Lists.{at}
use Rattle.model.specs.Records.{set_of}
use Rattle.model.specs.Shares.{b_list}
use Rattle.model.specs.Delays.{delays_of}
use Rattle.model.specs.RowBases.{row_base}
use Rattle.model.specs.Cells.{size, year_of, delay_of, rbns, ibnr, s_list, entry, output_from}
use Rattle.model.specs.CellsLaws.{written, size_most}
use Rattle.model.specs.Questions.{q6}
use Rattle.model.specs.declared.TriangleSet.{TriangleSet}
use Rattle.model.specs.Calls.{zeros, forecast_refusal, forecast_output}
use Rattle.model.specs.CallsLaws.{settings_refusal, settings_so}
use Rattle.chain_ladder.specs.Accepted.{valid_set}
use Rattle.chain_ladder.specs.Valid.{Valid, few, least}
use Rattle.cells.specs.SmallLaws.{rbns_small, ibnr_small}
use Rattle.delays.specs.Prepared.{prepared_refusal}
use Rattle.set_forecast.specs.SetForecast.{Answered, method_refusal, set_refusal}
use Rattle.forecast.specs.FileLaws as FileLaws
use Rattle.set_forecast.specs.SetForecastLaws.{set_so, set_asked, set_delays, set_weights, set_shares, set_bases}

module _ (m : ℕ) (s : TriangleSet) (method basis : ℕ) (valid : Valid m s) (six : q6 s.has_incurred method basis ≡ true) (accepted : set_refusal m s method ≡ 0) where
  known_or : (t : Bool) (z : ℤ) → nat_abs z ≤ 2 * 10 ^ 15 → nat_abs (cond t (pos 0) z) ≤ 2 * 10 ^ 15
  known_or true z h = omega arith
  known_or false z h = h

  passes : (prepared_refusal m s.counts s.paid ≡ 0) × (method_refusal m s method ≡ 0)
  passes = set_so m s method accepted

  cell_small : (i j : ℕ) → 1 ≤ i → i ≤ m → (nat_abs (rbns m s (delays_of m s) method basis i j) ≤ 2 * 10 ^ 15) × (nat_abs (ibnr m s (delays_of m s) method i j) ≤ 2 * 10 ^ 15)
  unfolding rbns ibnr
  cell_small i j h l =
      let a = set_asked m s method valid basis six passes.0 in
      let p = set_delays m s method valid passes.0 in
      let v = set_bases m s method a passes.1 (delays_of m s) p i h l in (
        known_or (leb (i + j) m) _ (rbns_small m (few m s valid) (row_base m s method i) v (s_list m s basis i) (delays_of m s) (set_weights m s method a passes.1 (delays_of m s) p basis i h l) p i j),
        known_or (leb (i + j) m) _ (ibnr_small m (few m s valid) (row_base m s method i) v (b_list m s.counts) (delays_of m s) (set_shares m s method a passes.1 (delays_of m s) p) p i j),
      )

  pub entry_small : (e : ℕ) → e < size m → nat_abs (entry m s (delays_of m s) method basis e) ≤ 2 * 10 ^ 15
  unfolding entry
  entry_small e l =
      let k = least m s valid in
      let w : 0 < 2 * m - 1 = omega arith in
      let a : e / 2 < m * (2 * m - 1) = half e (m * (2 * m - 1)) (rw (mul_assoc 2 m (2 * m - 1)) at l) in
      let d : e / 2 / (2 * m - 1) < m = (div-lt_iff_lt-mul w).1 a in
      let c = cell_small (year_of m e) (delay_of m e) (omega arith) (omega arith) in
      either (eqb (e % 2) 0) _ _ c.0 c.1
    where
      half : (e n : ℕ) → e < 2 * n → e / 2 < n
      half e n h = omega arith

      either : (t : Bool) (x y : ℤ) → nat_abs x ≤ 2 * 10 ^ 15 → nat_abs y ≤ 2 * 10 ^ 15 → nat_abs (cond t x y) ≤ 2 * 10 ^ 15
      either true x y h k = h
      either false x y h k = k

  -- as they are written
  pub output_small : (before : List ℤ) (e : ℕ) → e < size m → nat_abs (at (output_from m s (delays_of m s) method basis before) e) ≤ 2 * 10 ^ 15
  output_small before e l = rw (written m s (delays_of m s) method basis before e l) (entry_small e l)

-- of an accepted file
pub file_small : (m : ℕ) (f : List ℕ) (method basis : ℕ) (before : List ℤ) → forecast_refusal m f method basis (length before) ≡ 0
    → (2 ≤ m) × (m ≤ 20) × (size m ≤ length before) × ((e : ℕ) → e < size m → nat_abs (at (forecast_output m f method basis before) e) ≤ 2 * 10 ^ 15)
unfolding forecast_output set_of
file_small m f method basis before z =
    let p = FileLaws.passed m f method basis before z in
    let q = settings_so m f method basis p.0 in
    let v = valid_set m f q.0 in
    (least m (set_of m f) v, few m (set_of m f) v, p.1, rw z (output_small m (set_of m f) method basis v q.1 p.2 before))

-- of the forecast of a file's set t into zeros, with room for every m, which is the file's
module _ (m : ℕ) (f : List ℕ) (method basis : ℕ) (passed : settings_refusal m f method basis ≡ 0) {t : TriangleSet} (is : t ≡ set_of m f)
    {n : ℕ} {left lefts out : List ℤ} (made : Answered (set_refusal m t method) m t (delays_of m t) method basis n left lefts (zeros 1560) out) where
  pub set_number : n ≡ set_refusal m (set_of m f) method
  set_number = made.refusal ∙ ap (λ (u : TriangleSet). set_refusal m u method) is

  module _ (z : n ≡ 0) where
    pub set_accepted : forecast_refusal m f method basis 1560 ≡ 0
    set_accepted =
        let v = valid_set m f (settings_so m f method basis passed).0 in
        FileLaws.accepted m f method basis (zeros 1560) passed (size_most m (few m (set_of m f) v)) (sym set_number ∙ z)

    pub set_forecast : out ≡ forecast_output m f method basis (zeros 1560)
    unfolding forecast_output
    set_forecast = made.output ∙ rw (z, is, set_accepted)

    pub set_small : (2 ≤ m) × (m ≤ 20) × (size m ≤ 1560) × ((e : ℕ) → e < size m → nat_abs (at out e) ≤ 2 * 10 ^ 15)
    set_small = rw set_forecast (file_small m f method basis (zeros 1560) set_accepted)
