-- What Ready gives of a year i: its count share and latest sum as they stand in the lists, and that
-- its weights are weights. Assumes nothing.
use Rattle.std.specs.Prelude.{◌≡◌, refl, ◌↔◌, Bool, cond, ℕ, suc, ◌+◌, ◌-◌, ◌*◌, ◌^◌, ◌≤◌, ◌<◌, eqb, ℤ, pos, nat_abs}
use Rattle.std.proofs.Common.{w64, to_z, of_z, sym, ◌∙◌, arith, eq-eqb, ne_eqb, eqb-true}
use Rattle.std.proofs.Math.Path.{ap}
use Rattle.std.proofs.lemmas.Bool.{eqb-false}
use Rattle.std.proofs.Math.Bool.{true, false}
use mathlib.Core.List.{List}
use Rattle.integers.specs.Order.{nat_abs_mono}
use Rattle.model.specs.Lists.{at, listed}
use Rattle.model.specs.ListsLaws.{get_or_listed}
use Rattle.model.specs.Rounding.{S}
use Rattle.model.specs.Tests.{by_test}
use Rattle.model.specs.Shares as Shares
use Rattle.model.specs.Shares.{g_list}
use Rattle.ladder.specs.SharesLaws.{g_range}
use Rattle.cells.specs.Weights.{Weights, Counted, actual_weight, weights_from}
use Rattle.cells.specs.CellOf.{number, Year, sums_from}
use Rattle.cells.specs.declared.Basis.{Basis}
use Rattle.cells.specs.declared.Basis.TheVariants.{Actual, Estimated}
use Rattle.cells.specs.SumsFromLaws.{sums_fit}
use Rattle.cells.specs.SmallLaws.{read_back}
use Rattle.years.specs.WeightsLaws.{shares_weights, actual_weights}
use Rattle.years.specs.Ready.{Ready, year_weights}

-- under basis 1 the weights are the shares; under another basis they rest on no shares
module _ (m : ℕ) (t : List ℤ) (basis : ℕ) (g latest : List ℤ) (i : ℕ) where
  pub estimated : (shares : List ℤ) → basis ≡ 1 → year_weights m t basis shares g latest i ≡ shares
  unfolding year_weights weights_from
  estimated shares b = rw (eq-eqb basis 1 b)

  pub same_weights : (s shares : List ℤ) → (basis ≡ 1 → s ≡ shares) → year_weights m t basis s g latest i ≡ year_weights m t basis shares g latest i
  unfolding year_weights weights_from
  same_weights s shares e = by_test (eqb basis 1) (λ q. rw (e (eqb-true basis 1 q))) (λ q. rw q)

-- 1 is the number of estimated counts alone
pub is_estimated : (b : Basis) → number b ≡ 1 → b ≡ Estimated
is_estimated Estimated e = refl
is_estimated Actual e = absurd (omega arith)

-- numbers that are 1 together give the same weights
pub same_basis : (m : ℕ) (t : List ℤ) {b n : ℕ} (shares g latest : List ℤ) (i : ℕ) → (b ≡ 1) ↔ (n ≡ 1) → year_weights m t b shares g latest i ≡ year_weights m t n shares g latest i
unfolding year_weights weights_from
same_basis m t {b} {n} shares g latest i h =
    by_test (eqb b 1) (λ q. rw (q, eq-eqb n 1 (h.0 (eqb-true b 1 q))))
    (λ q. rw (q, ne_eqb n 1 (λ e. eqb-false b 1 q (h.1 e))))

module _ {m : ℕ} {t shares g latest v p : List ℤ} (z : Ready m t shares g latest v p) where
  abbrev some : 1 ≤ m
  some = let h = z.some in omega arith

  pub shares_fit : Weights shares
  shares_fit = rw z.shares_are (shares_weights m t some z.few z.sound)

  module _ (i : ℕ) (h : 1 ≤ i) (l : i ≤ m) where
    pub g_at : at g (m - i) ≡ Shares.g m t (m - i)
    unfolding g_list
    g_at =
        let k : m - i < 20 = omega (arith, z.few) in
        ap (λ (x : List ℤ). at x (m - i)) z.g_are ∙ get_or_listed 20 m (Shares.g m t) (pos 0) (m - i) (pos 0) k (omega arith)

    pub latest_at : at latest (i - 1) ≡ Shares.latest m t i
    latest_at =
        let k : i - 1 < 20 = omega (arith, z.few) in
        let e : suc (i - 1) ≡ i = omega arith in
        ap (λ (x : List ℤ). at x (i - 1)) z.latest_are
        ∙ get_or_listed 20 m (λ k. Shares.latest m t (suc k)) (pos 0) (i - 1) (pos 0) k (omega arith) ∙ ap (Shares.latest m t) e

    pub counted : Counted m i t (at g (m - i)) (at latest (i - 1))
    unfolding S
    counted =
        let r = g_range m t z.sound (m - i) (omega arith) in
        rw (g_at, latest_at) (record {
          first = h;
          last = l;
          few = z.few;
          share = nat_abs_mono r.0 r.1;
          some = (z.rows i h l).0;
          row = (z.rows i h l).1;
          counts = λ k u. z.cells i k h (omega arith);
        })

    pub year_weights_lem : (basis : ℕ) → Weights (year_weights m t basis shares g latest i)
    unfolding year_weights weights_from
    year_weights_lem basis = by_basis (eqb basis 1)
      where
        by_basis : (b : Bool) → Weights (cond b shares (listed 20 (m - i + 1) (actual_weight t i (at g (m - i)) (at latest (i - 1))) (pos 0)))
        by_basis true = shares_fit
        by_basis false =
            rw (g_at, latest_at) (actual_weights m t some z.few z.sound i h l (z.rows i h l).0)

    -- what the year's cells ask, from the sums over the claims that it has not reported
    pub year : (basis : ℕ) {whole u : List ℤ} → (basis ≡ 1 → whole ≡ sums_from m 0 shares p) → u ≡ sums_from m (m - i + 1) shares p
        → Year m i basis whole u (year_weights m t basis shares g latest i) p
    year basis {whole} {u} w e = record {
      first = h;
      last = l;
      few = z.few;
      weights = year_weights_lem basis;
      delays = z.delays;
      summed = rw e (sums_fit m (m - i + 1) shares p z.few shares_fit z.delays);
      whole_is = λ b. w b ∙ ap (λ (s : List ℤ). sums_from m 0 s p) (sym (estimated m t basis g latest i shares b));
      later_is = λ b. e ∙ ap (λ (s : List ℤ). sums_from m (m - i + 1) s p) (sym (estimated m t basis g latest i shares b));
    }

  -- year k + 1 as a loop over the years has its row base, weights and sums
  module _ (k : ℕ) (h : k < m) where
    pub base_back : to_z w64 (of_z w64 (at v k)) ≡ at v k
    base_back = read_back (at v k) (omega (arith, z.bases k h))

    pub next_year : (basis : ℕ) {whole u s : List ℤ} → (basis ≡ 1 → whole ≡ sums_from m 0 shares p) → u ≡ sums_from m (m - k) shares p → s ≡ year_weights m t basis shares g latest (k + 1)
        → Year m (k + 1) basis whole u s p × (nat_abs (to_z w64 (of_z w64 (at v k))) ≤ 2 * 10 ^ 14)
    next_year basis w e s_is =
        let q : m - k ≡ m - (k + 1) + 1 = omega arith in
        (rw s_is (year (k + 1) (omega arith) (omega arith) basis w (e ∙ ap (λ (c : ℕ). sums_from m c shares p) q)), rw base_back (z.bases k h))
