-- Laws of Weights: the weights of either basis are weights, for a sound triangle of counts. Assumes
-- nothing.
use Rattle.std.specs.Prelude.{◌≡◌, refl, List, [], ◌∷◌, ltb, ℤ, ◌+ℤ◌, ◌*ℤ◌}
use Rattle.std.proofs.Common.{◌∙◌, ap, add-one, ltb-true, ltb-false}
use Prim.Native.Nat.{ℕ, suc, ◌+◌, ◌-◌, ◌^◌, ◌≤◌, ◌<◌}
use native.Mathlib.Omega.{arith}
use Rattle.std.proofs.Math.IntN.{pos}
use Rattle.integers.specs.Parts.{◌⩽◌, ◌⋖◌, ints}
use Rattle.integers.specs.Linear.{lin, stmt, ◌&◌}
use Rattle.integers.specs.Monomials.{nlin, nstmt}
use Rattle.integers.specs.Order.{≤ℤ_of-≡, nonneg, *ℤ_nonneg, *ℤ_cancel-≤}
use Rattle.integers.specs.Sums.{sum, sum_cong, sum_ends, sum_mono, sum-+ℤ, sum-*ℤ_l, sum-*ℤ_r, sum_const}
use Rattle.model.specs.Lists.{at, listed}
use Rattle.model.specs.ListsLaws.{get_or_listed, get_or_listed_past}
use Rattle.model.specs.Records.{cell}
use Rattle.model.specs.Rounding.{S}
use Rattle.model.specs.Shares as Shares
use Rattle.model.specs.Shares.{C, latest, g, b_list}
use Rattle.model.specs.Cells.{s_list}
use Rattle.model.specs.Tests.{by_test}
use Rattle.model.specs.declared.TriangleSet.{TriangleSet}
use Rattle.rounding.specs.RoundingLaws.{r_nonneg, r_upper}
use Rattle.ladder.specs.SharesLaws.{Sound, share_range, shares_sum, g_range}
use Rattle.cells.specs.Weights.{Weights, actual_weight, weights_from}

-- a list of 20 places whose first n hold f, which is not negative
module _ (n : ℕ) (f : ℕ → ℤ) (few : n ≤ 20) where
  listed_nonneg : ((k : ℕ) → k < n → pos 0 ⩽ f k) → (k : ℕ) → k < 20 → pos 0 ⩽ at (listed 20 n f (pos 0)) k
  listed_nonneg h k l =
      by_test (ltb k n) (λ e. let u : k < n = ltb-true k n e in rw (get_or_listed 20 n f (pos 0) k (pos 0) l u) (h k u))
      (λ e. let u : n ≤ k = ltb-false k n e in rw (get_or_listed_past 20 n f (pos 0) k (pos 0) l u) (nonneg 0))

  listed_sum : sum 20 (at (listed 20 n f (pos 0))) ≡ sum n f
  listed_sum =
      sum_ends n 20 (at (listed 20 n f (pos 0))) few (λ k h l. get_or_listed_past 20 n f (pos 0) k (pos 0) l h)
      ∙ sum_cong n (λ k l. get_or_listed 20 n f (pos 0) k (pos 0) (omega arith) l)

scale_small : (x : ℤ) → x ⩽ S → x ⩽ pos (10 ^ 9 + 20)
unfolding S
scale_small x h = omega (arith, ints)

module _ (m : ℕ) (t : List ℤ) (some : 1 ≤ m) (few : m ≤ 20) (ok : Sound m t) where
  -- estimated counts: the shares
  pub shares_weights : Weights (b_list m t)
  unfolding b_list
  shares_weights = record {
    low = listed_nonneg m (Shares.b m t) few (λ k l. (share_range m t ok k l).0);
    sum_high = rw (listed_sum m (Shares.b m t) few, shares_sum m t some) (scale_small S (≤ℤ_of-≡ refl));
  }

  -- actual counts of year i
  module _ (i : ℕ) (h : 1 ≤ i) (l : i ≤ m) (row : pos 0 ⋖ latest m t i) where
    abbrev x : ℤ
    x = g m t (m - i)

    abbrev c : ℤ
    c = latest m t i

    abbrev n : ℕ
    n = m - i + 1

    abbrev weight : ℕ → ℤ
    weight = actual_weight t i x c

    x_range : (pos 0 ⩽ x) × (x ⩽ S)
    x_range = g_range m t ok (m - i) (omega arith)

    count_nonneg : (k : ℕ) → k < n → pos 0 ⩽ cell t i k
    count_nonneg k u = ok.cells i k h (omega arith)

    weight_nonneg : (k : ℕ) → k < n → pos 0 ⩽ weight k
    unfolding actual_weight
    weight_nonneg k u = r_nonneg (cell t i k *ℤ x) c row (*ℤ_nonneg (count_nonneg k u) x_range.0)

    -- the counts up to the latest delay
    counts_sum : sum n (cell t i) ≡ c
    unfolding latest C
    counts_sum = let e : m - i + 1 ≡ suc (m - i) = omega arith in rw e

    -- one half for each rounding
    each : (k : ℕ) → k < n → pos 2 *ℤ (weight k *ℤ c) ⩽ pos 2 *ℤ (cell t i k *ℤ x) +ℤ c
    unfolding actual_weight
    each k u = r_upper (cell t i k *ℤ x) c row

    together : pos 2 *ℤ (sum n weight *ℤ c) ⩽ pos 2 *ℤ (c *ℤ x) +ℤ pos n *ℤ c
    together =
        rw (
          ← sum-*ℤ_r n weight c,
          ← sum-*ℤ_l n (pos 2) (λ k. weight k *ℤ c),
          ← counts_sum_x,
          ← sum-*ℤ_l n (pos 2) (λ k. cell t i k *ℤ x),
          ← sum_const n c,
          ← sum-+ℤ n (λ k. pos 2 *ℤ (cell t i k *ℤ x)) (λ k. c),
        )
        (sum_mono n (λ k. pos 2 *ℤ (weight k *ℤ c)) (λ k. pos 2 *ℤ (cell t i k *ℤ x) +ℤ c) each)
      where
        counts_sum_x : sum n (λ k. cell t i k *ℤ x) ≡ c *ℤ x
        counts_sum_x = sum-*ℤ_r n (cell t i) x ∙ ap (λ (z : ℤ). z *ℤ x) counts_sum

    weights_sum : pos 2 *ℤ sum n weight ⩽ pos 2 *ℤ x +ℤ pos n
    weights_sum = *ℤ_cancel-≤ c row (nlin (sum n weight ∷ c ∷ x ∷ pos n ∷ []) together (search nstmt depth 20) (omega arith))

    pub actual_weights : Weights (listed 20 n weight (pos 0))
    unfolding S
    actual_weights = record {
      low = listed_nonneg n weight (omega arith) weight_nonneg;
      sum_high =
          rw (listed_sum n weight (omega arith))
          (lin (sum n weight ∷ x ∷ pos n ∷ []) (weights_sum & x_range.1 & few_halves) (search stmt depth 20) (omega arith));
    }
      where
        few_halves : pos n ⩽ pos 20
        few_halves = omega (arith, ints)

-- s(k) as the model has it
pub weights_are : (m : ℕ) (s : TriangleSet) (basis i : ℕ)
    → weights_from m s.counts i basis (b_list m s.counts) (g m s.counts (m - i)) (latest m s.counts i) ≡ s_list m s basis i
unfolding weights_from s_list actual_weight
weights_are m s basis i = rw add-one
