-- Laws of a triangle's sums: how they go on from delay to delay, and how large they get. Assumes
-- nothing.
use Rattle.std.specs.Prelude.{◌≡◌, List, [], ◌∷◌, length, ℤ, nat_abs, ◌+ℤ◌, ◌-ℤ◌}
use Rattle.std.proofs.Common.{sym, ◌∙◌, mul-le-mul_right}
use Prim.Native.Nat.{ℕ, suc, ◌+◌, ◌-◌, ◌*◌, ◌^◌, ◌≤◌, ◌<◌}
use Rattle.std.proofs.Math.Nat.{sub-zero}
use native.Mathlib.Omega.{arith}
use Rattle.integers.specs.Solver.{ring, form}
use Rattle.integers.specs.Sums.{sum, sum_one, sum_suc, sum_cong, sum-+ℤ, sum_nat_abs}
use Rattle.model.specs.Lists.{at}
use Rattle.model.specs.Records.{cell}
use Rattle.model.specs.Lent.{triangle_in, at_triangle}
use Rattle.model.specs.Shares.{C, latest, A, B}
use Rattle.rounding.specs.Running.{sum_fits}
use Rattle.arithmetic.specs.Spaced as Arithmetic
use Rattle.ladder.specs.Sums.{Small, Spaced}

C-first : (t : List ℤ) (i : ℕ) → C t i 0 ≡ cell t i 0
unfolding C
C-first t i = sum_one (cell t i)

C-next : (t : List ℤ) (i j : ℕ) → C t i (suc j) ≡ C t i j +ℤ cell t i (suc j)
unfolding C
C-next t i j = sum_suc (suc j) (cell t i)

-- B(0) is the sum of column 0
pub B-first : (m : ℕ) (t : List ℤ) → B m t 0 ≡ sum m (λ k. cell t (suc k) 0)
unfolding B
B-first m t = rw (sub-zero m) (sum_cong m (λ k l. C-first t (suc k)))

-- A(j+1) is B(j) without row n + 1, the last
pub A-next : (m : ℕ) (t : List ℤ) (j n : ℕ) → suc n + j ≡ m → B m t j -ℤ latest m t (suc n) ≡ A m t (suc j)
unfolding A B latest
A-next m t j n e =
    let rows : m - j ≡ suc n = omega arith in
    let fewer : m - suc j ≡ n = omega arith in
    let delay : m - suc n ≡ j = omega arith in
    let before : suc j - 1 ≡ j = omega arith in
    rw (rows, fewer, delay, before, sum_suc n (λ k. C t (suc k) j)) (ring (sum n (λ k. C t (suc k) j) ∷ C t (suc n) j ∷ []) (search form depth 20) tt)

-- B(j) is A(j) and column j
pub B-next : (m : ℕ) (t : List ℤ) (j : ℕ) → B m t (suc j) ≡ A m t (suc j) +ℤ sum (m - suc j) (λ k. cell t (suc k) (suc j))
unfolding A B
B-next m t j =
    let before : suc j - 1 ≡ j = omega arith in
    rw before (sum_cong (m - suc j) (λ k l. C-next t (suc k) j) ∙ sum-+ℤ (m - suc j) (λ k. C t (suc k) j) (λ k. cell t (suc k) (suc j)))

-- in a lent set a row's cells stand one after the other, a column's cells 20 places apart
module _ (set : List ℤ) (kind : ℕ) where
  abbrev t : List ℤ
  t = triangle_in kind set

  row_cell : (k j : ℕ) → k < 20 → j < 20 → at set (400 * kind + 20 * k + 1 * j) ≡ cell t (suc k) j
  row_cell k j h l =
      let e : 400 * kind + 20 * k + 1 * j ≡ 400 * kind + (20 * (suc k - 1) + j) = omega arith in
      rw e (sym (at_triangle kind (20 * (suc k - 1) + j) set (omega arith)))

  column_cell : (j i : ℕ) → i < 20 → j < 20 → at set (400 * kind + j + 20 * i) ≡ cell t (suc i) j
  column_cell j i h l =
      let e : 400 * kind + j + 20 * i ≡ 400 * kind + (20 * (suc i - 1) + j) = omega arith in
      rw e (sym (at_triangle kind (20 * (suc i - 1) + j) set (omega arith)))

  pub row_sum : (m k : ℕ) → m ≤ 20 → k < m → sum (m - k) (λ j. at set (400 * kind + 20 * k + 1 * j)) ≡ latest m t (suc k)
  unfolding latest C
  row_sum m k few h = let n : suc (m - suc k) ≡ m - k = omega arith in rw n (sum_cong (m - k) (λ j l. row_cell k j (omega arith) (omega arith)))

  pub column_sum : (n j : ℕ) → n ≤ 20 → j < 20 → sum n (λ i. at set (400 * kind + j + 20 * i)) ≡ sum n (λ i. cell t (suc i) j)
  column_sum n j h l = sum_cong n (λ i u. column_cell j i (omega arith) l)

  module _ (m : ℕ) (within : kind < 3) (small : Small m (10 ^ 10) t) where
    pub row_spaced : (k : ℕ) → k < m → Spaced (400 * kind + 20 * k) 1 (m - k) set
    row_spaced k h =
        record {
          few = omega (arith, small.few);
          places = λ j l. omega (arith, small.few);
          cells = λ j l. rw (row_cell k j (omega (arith, small.few)) (omega (arith, small.few))) (small.cells (suc k) j (omega arith) (omega arith));
        }

    pub column_spaced : (n j : ℕ) → n + j ≤ m → Spaced (400 * kind + j) 20 n set
    column_spaced n j h =
        record {
          few = omega (arith, small.few);
          places = λ i l. omega (arith, small.few);
          cells = λ i l. rw (column_cell j i (omega (arith, small.few)) (omega (arith, small.few))) (small.cells (suc i) j (omega arith) (omega arith));
        }

-- what `arithmetic::spaced_sum` asks of the cells of a lent set
pub running : {a d n : ℕ} {set : List ℤ} → length set ≡ 1200 → Spaced a d n set → Arithmetic.Spaced a d n set
running e s = record { places = λ k h. rw e (s.places k h); fits = λ k h. sum_fits k _ (omega (arith, s.few)) (λ i l. s.cells i (omega arith)) }

-- a sum of at most 20 numbers
few_small : (k n c : ℕ) → k ≤ 20 → n ≤ k * c → n ≤ 20 * c
few_small k n c h l = omega (arith, mul-le-mul_right c h)

module _ (m n : ℕ) (t : List ℤ) (small : Small m n t) where
  C-small : (i j : ℕ) → 1 ≤ i → i + j ≤ m → nat_abs (C t i j) ≤ 20 * n
  unfolding C
  C-small i j h l = few_small (suc j) _ n (omega arith) (sum_nat_abs (suc j) n (cell t i) (λ k u. small.cells i k h (omega arith)))

  pub latest_small : (i : ℕ) → 1 ≤ i → i ≤ m → nat_abs (latest m t i) ≤ 20 * n
  unfolding latest
  latest_small i h l = C-small i (m - i) h (omega arith)

  column_small : (j d : ℕ) → j < m → d ≤ j → nat_abs (sum (m - j) (λ k. C t (suc k) d)) ≤ 20 * (20 * n)
  column_small j d h l =
      few_small (m - j) _ (20 * n) (omega arith) (sum_nat_abs (m - j) (20 * n) (λ k. C t (suc k) d) (λ k u. C-small (suc k) d (omega arith) (omega arith)))

  pub A-small : (j : ℕ) → j < m → nat_abs (A m t j) ≤ 20 * (20 * n)
  unfolding A
  A-small j h = column_small j (j - 1) h (omega arith)

  pub B-small : (j : ℕ) → j < m → nat_abs (B m t j) ≤ 20 * (20 * n)
  unfolding B
  B-small j h = column_small j j h (omega arith)
