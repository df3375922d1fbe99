-- What is made of the cells with i + j <= n alone: triangles and sets that agree there give the
-- same shares, delays, row bases, cells and questions of size n, and so does a set cut to that
-- size. Assumes nothing.
use Rattle.std.specs.Prelude.{◌≡◌, ◌&&◌, List, ℤ, pos, neg_ℤ, ◌*ℤ◌}
use Rattle.std.proofs.Math.Path.{refl, ap}
use Prim.Native.Nat.{ℕ, zero, suc, ◌+◌, ◌-◌, ◌*◌, ◌^◌, ◌≤◌}
use Rattle.std.proofs.Common.{arith}
use Rattle.std.specs.Int.Signed.{le_z, lt_z}
use Rattle.integers.specs.Sums.{sum_cong}
use Rattle.model.specs.ListsLaws.{listed_ext, every_ext}
use Rattle.model.specs.Records.{cell}
use Rattle.model.specs.RecordsLaws.{cell_triangle}
use Rattle.model.specs.Rounding.{r}
use Rattle.model.specs.Shares as Shares
use Rattle.model.specs.Shares.{C, latest, A, B, g_down, g, b_list, ultimate}
use Rattle.model.specs.Delays.{delays_of}
use Rattle.model.specs.RowBases.{U, W, R, R*, row_base}
use Rattle.model.specs.Cells.{s_list, rbns, ibnr}
use Rattle.model.specs.BackTest.{cut_to}
use Rattle.model.specs.Questions.{within, q9, q10, q11, q13, q14, of_shares, of_method, of_forecast}
use Rattle.model.specs.declared.TriangleSet.{TriangleSet}
use Rattle.set_forecast.specs.SetForecast.{set_refusal}

pub record Same (n : ℕ) (t u : List ℤ) : Type 0 where
  pub at_cell : (i j : ℕ) → 1 ≤ i → i + j ≤ n → cell t i j ≡ cell u i j

pub record SameSet (n : ℕ) (s t : TriangleSet) : Type 0 where
  pub some : 1 ≤ n
  pub counts : Same n s.counts t.counts
  pub paid : Same n s.paid t.paid
  pub incurred : Same n s.incurred t.incurred

-- ---- a triangle
module _ {n : ℕ} {t u : List ℤ} (same : Same n t u) where
  C-same : (i j : ℕ) → 1 ≤ i → i + j ≤ n → C t i j ≡ C u i j
  unfolding C
  C-same i j h l = sum_cong (suc j) (λ k b. same.at_cell i k h (omega arith))

  latest_same : (i : ℕ) → 1 ≤ i → i ≤ n → latest n t i ≡ latest n u i
  unfolding latest
  latest_same i h l = C-same i (n - i) h (omega arith)

  A-same : (j : ℕ) → A n t j ≡ A n u j
  unfolding A
  A-same j = sum_cong (n - j) (λ k b. C-same (suc k) (j - 1) (omega arith) (omega arith))

  B-same : (j : ℕ) → B n t j ≡ B n u j
  unfolding B
  B-same j = sum_cong (n - j) (λ k b. C-same (suc k) j (omega arith) (omega arith))

  down_same : (k : ℕ) → g_down n t k ≡ g_down n u k
  unfolding g_down
  down_same zero = refl
  down_same (suc k) = rw (down_same k, A-same (n - 1 - k), B-same (n - 1 - k))

  g_same : (j : ℕ) → g n t j ≡ g n u j
  unfolding g
  g_same j = down_same (n - 1 - j)

  b_same : (j : ℕ) → Shares.b n t j ≡ Shares.b n u j
  unfolding Shares.b
  b_same zero = g_same 0
  b_same (suc j) = rw (g_same (suc j), g_same j)

  shares_same : b_list n t ≡ b_list n u
  unfolding b_list
  shares_same = listed_ext 20 n _ _ (pos 0) (λ k h. b_same k)

  ultimate_same : (i : ℕ) → 1 ≤ i → i ≤ n → ultimate n t i ≡ ultimate n u i
  unfolding ultimate
  ultimate_same i h l = rw (latest_same i h l, g_same (n - i))

  q9_same : q9 n t ≡ q9 n u
  unfolding q9
  q9_same = every_ext _ _ n (λ k h. ap (lt_z (pos 0)) (latest_same (suc k) (omega arith) h))

  q10_same : q10 n t ≡ q10 n u
  unfolding q10
  q10_same = every_ext _ _ (n - 1) (λ k h. ap (lt_z (pos 0)) (B-same (suc k)))

  q11_same : q11 n t ≡ q11 n u
  unfolding q11
  q11_same = ap (le_z (pos (10 ^ 6))) (g_same 0)

  q13_same : q13 n t ≡ q13 n u
  unfolding q13
  q13_same =
      rw (
        every_ext (λ k. lt_z (pos 0) (A n t (suc k)) && lt_z (pos 0) (B n t (suc k))) (λ k. lt_z (pos 0) (A n u (suc k)) && lt_z (pos 0) (B n u (suc k))) (n - 1) (λ k h. rw (A-same (suc k), B-same (suc k))),
        every_ext (λ k. le_z (pos 0) (latest n t (suc k))) (λ k. le_z (pos 0) (latest n u (suc k))) n (λ k h. ap (le_z (pos 0)) (latest_same (suc k) (omega arith) h)),
        every_ext (λ j. within (pos (10 ^ 6)) (pos (4 * 10 ^ 9)) (g n t j)) (λ j. within (pos (10 ^ 6)) (pos (4 * 10 ^ 9)) (g n u j)) n (λ j h. ap (within (pos (10 ^ 6)) (pos (4 * 10 ^ 9))) (g_same j)),
      )

-- ---- a set
module _ {n : ℕ} {s t : TriangleSet} (same : SameSet n s t) where
  pub delays_same : delays_of n s ≡ delays_of n t
  unfolding delays_of
  delays_same = rw (shares_same same.counts, shares_same same.paid)

  bases_same : (method i : ℕ) → 1 ≤ i → i ≤ n → row_base n s method i ≡ row_base n t method i
  unfolding row_base U W R R*
  bases_same method i h l =
      rw (ultimate_same same.paid 1 (omega arith) same.some, ultimate_same same.incurred 1 (omega arith) same.some, ultimate_same same.paid i h l, ultimate_same same.incurred i h l, latest_same same.paid i h l)

  q14_same : (method : ℕ) → q14 n s method ≡ q14 n t method
  unfolding q14
  q14_same method = every_ext _ _ n (λ k h. ap (within (neg_ℤ (pos (2 * 10 ^ 14))) (pos (2 * 10 ^ 14))) (bases_same method (suc k) (omega arith) h))

  pub refusal_same : (method : ℕ) → set_refusal n s method ≡ set_refusal n t method
  unfolding set_refusal of_forecast of_shares of_method
  refusal_same method =
      rw (delays_same, q9_same same.counts, q10_same same.paid, q11_same same.counts, q11_same same.paid, q13_same same.incurred, q14_same method)

  weights_same : (basis i : ℕ) → 1 ≤ i → i ≤ n → s_list n s basis i ≡ s_list n t basis i
  unfolding s_list
  weights_same basis i h l =
      rw (shares_same same.counts, listed_ext 20 (suc (n - i)) (λ k. r (cell s.counts i k *ℤ g n s.counts (n - i)) (latest n s.counts i)) (λ k. r (cell t.counts i k *ℤ g n t.counts (n - i)) (latest n t.counts i)) (pos 0) (λ k b. rw (same.counts.at_cell i k h (omega arith), g_same same.counts (n - i), latest_same same.counts i h l)))

  pub rbns_same : (p : List ℤ) (method basis i j : ℕ) → 1 ≤ i → i ≤ n → rbns n s p method basis i j ≡ rbns n t p method basis i j
  unfolding rbns
  rbns_same p method basis i j h l = rw (bases_same method i h l, weights_same basis i h l)

  pub ibnr_same : (p : List ℤ) (method i j : ℕ) → 1 ≤ i → i ≤ n → ibnr n s p method i j ≡ ibnr n t p method i j
  unfolding ibnr
  ibnr_same p method i j h l = rw (bases_same method i h l, shares_same same.counts)

-- ---- a set cut to size n
pub cut_same : (n : ℕ) → 1 ≤ n → n ≤ 20 → (s : TriangleSet) → SameSet n (cut_to n s) s
unfolding cut_to
cut_same n some few s = record {
  some = some;
  counts = record { at_cell = λ i j h l. cell_triangle n (cell s.counts) i j few h l };
  paid = record { at_cell = λ i j h l. cell_triangle n (cell s.paid) i j few h l };
  incurred = record { at_cell = λ i j h l. cell_triangle n (cell s.incurred) i j few h l };
}
