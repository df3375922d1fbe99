-- A year's cells at the delays below m, with estimated counts: for any row base v, and any delays p
-- that solve the system of the shares b and q. Assumes nothing.
use Rattle.std.specs.Prelude.{◌≡◌, refl, Bool, ◌&&◌, List, [], ◌∷◌, pos, ◌+ℤ◌, ◌*ℤ◌, ◌-ℤ◌}
use Rattle.std.proofs.Math.Path.{sym, ap, ap₂}
use Rattle.std.proofs.Common.{◌∙◌}
use Rattle.std.proofs.Math.Bool.{true, false, cond}
use Prim.Native.Nat.{ℕ, suc, ◌+◌, ◌-◌, ◌≤◌, ◌<◌}
use native.Mathlib.Omega.{arith}
use borrow.Author.Tests.{leb-true, leb-false, le-leb, lt-leb, le-ltb, lt-ltb}
use Rattle.std.proofs.Math.Dec.{leb, ltb}
use Rattle.std.proofs.Math.IntN.{ℤ, +ℤ_idl, +ℤ_idr}
use Rattle.integers.specs.Parts.{◌⋖◌}
use Rattle.integers.specs.Solver.{ring, form}
use Rattle.integers.specs.Order.{≤ℤ_of-≡, *ℤ_pos}
use Rattle.integers.specs.Absolute.{∣◌∣, Half, by_half, half_is, half-≤, half-+, half-*, half_sum}
use Rattle.integers.specs.Sums.{sum, conv, sum_cong, sum_nothing, sum_split, sum-+ℤ, sum--ℤ, sum-*ℤ_l}
use Rattle.model.specs.Lists.{at}
use Rattle.model.specs.Rounding.{S, r}
use Rattle.model.specs.Cells.{pairs, rbns_from, ibnr_from}
use Rattle.rounding.specs.RoundingLaws.{S_pos, r_near}
use Rattle.solver.specs.DelaysLaws.{Solves}

-- two rounded parts of v × (x + y), at the scale s, against v × w
two_parts : (s x y x' y' v w e : ℤ) → Half (s *ℤ x' -ℤ v *ℤ x) s → Half (s *ℤ y' -ℤ v *ℤ y) s → Half (x +ℤ y -ℤ w) e
    → Half (s *ℤ (x' +ℤ y') -ℤ v *ℤ w) (pos 2 *ℤ s +ℤ ∣ v ∣ *ℤ e)
two_parts s x y x' y' v w e h k l =
    half-≤ (half_is (ring (s ∷ x ∷ y ∷ x' ∷ y' ∷ v ∷ w ∷ []) (search form depth 20) tt) (half-+ (half-+ h k) (half-* v l)))
    (≤ℤ_of-≡ (ring (s ∷ ∣ v ∣ ∷ e ∷ []) (search form depth 20) tt))

module _ (m : ℕ) (b p : List ℤ) where
  -- ---- a cell's two sums make up the whole convolution
  -- b(k) p(j-k), where j - k is a delay
  product : ℕ → ℕ → ℤ
  product j k = cond (leb k j && ltb (j - k) m) (at b k *ℤ at p (j - k)) (pos 0)

  -- each k is on one side of n
  one_side : (j n k : ℕ) (t : Bool) → leb k n ≡ t
      → cond (leb k n && leb k j && ltb (j - k) m) (at b k *ℤ at p (j - k)) (pos 0) +ℤ cond (ltb n k && leb k j && ltb (j - k) m) (at b k *ℤ at p (j - k)) (pos 0)
      ≡ product j k
  unfolding product
  one_side j n k true e = let h : k ≤ n = leb-true k n e in rw (e, le-ltb n k h) (+ℤ_idr (product j k))
  one_side j n k false e = let h : n < k = leb-false k n e in rw (e, lt-ltb n k h) (+ℤ_idl (product j k))

  product_in : (j k : ℕ) → j < m → k < suc j → product j k ≡ at b k *ℤ at p (j - k)
  unfolding product
  product_in j k h l =
      let e : k ≤ j = omega arith in
      let d : j - k < m = omega arith in
      rw (le-leb k j e, lt-ltb (j - k) m d)

  product_out : (j k : ℕ) → j < k → product j k ≡ pos 0
  unfolding product
  product_out j k h = rw (lt-leb k j h)

  both_sums : (j n : ℕ) → j < m → pairs m j (λ k. leb k n) b p +ℤ pairs m j (λ k. ltb n k) b p ≡ conv (at b) (at p) j
  unfolding pairs conv
  both_sums j n h =
      let e : m ≡ suc j + (m - suc j) = omega arith in
      sym (sum-+ℤ m (λ k. cond (leb k n && leb k j && ltb (j - k) m) (at b k *ℤ at p (j - k)) (pos 0))
      (λ k. cond (ltb n k && leb k j && ltb (j - k) m) (at b k *ℤ at p (j - k)) (pos 0)))
      ∙ sum_cong m (λ k l. one_side j n k (leb k n) refl)
      ∙ ap (λ (i : ℕ). sum i (product j)) e
      ∙ sum_split (suc j) (m - suc j) (product j)
      ∙ ap₂ (λ (x y : ℤ). x +ℤ y) (sum_cong (suc j) (λ k l. product_in j k h l)) (sum_nothing (m - suc j) (λ k l. product_out j (suc j + k) (omega arith)))
      ∙ +ℤ_idr (sum (suc j) (λ k. at b k *ℤ at p (j - k)))

  module _ (v : ℤ) where
    -- RBNS and IBNR of cell (i,j) together, 0 where it is known
    unfoldable pub cell_sum : ℕ → ℕ → ℤ
    cell_sum i j = cond (leb (i + j) m) (pos 0) (rbns_from m v b p i j) +ℤ cond (leb (i + j) m) (pos 0) (ibnr_from m v b p i j)

    -- the cells of the delays below m
    unfoldable pub year_cells : ℕ → ℤ
    year_cells i = sum m (cell_sum i)

    cell_known : (i j : ℕ) → i + j ≤ m → cell_sum i j ≡ pos 0
    unfolding cell_sum
    cell_known i j h = rw (le-leb (i + j) m h)

    -- those of its i - 1 forecast delays
    year_cells_lem : (i : ℕ) → 1 ≤ i → i ≤ m → year_cells i ≡ sum (i - 1) (λ k. cell_sum i (suc (m - i + k)))
    unfolding year_cells
    year_cells_lem i h l =
        let e : m ≡ suc (m - i) + (i - 1) = omega arith in
        ap (λ (n : ℕ). sum n (cell_sum i)) e
        ∙ sum_split (suc (m - i)) (i - 1) (cell_sum i)
        ∙ ap₂ (λ (x y : ℤ). x +ℤ y) (sum_nothing (suc (m - i)) (λ k u. cell_known i k (omega arith)))
        (sum_cong (i - 1) (λ k u. let d : suc (m - i) + k ≡ suc (m - i + k) = omega arith in rw d))
        ∙ +ℤ_idl (sum (i - 1) (λ k. cell_sum i (suc (m - i + k))))

    module _ (q : List ℤ) (solves : Solves m b q p) where
      -- a forecast cell: one half from each rounding, and what the delays leave
      cell_near : (i j : ℕ) → j < m → m < i + j → Half (S *ℤ S *ℤ cell_sum i j -ℤ v *ℤ (S *ℤ at q j)) (pos 2 *ℤ (S *ℤ S) +ℤ ∣ v ∣ *ℤ at b 0)
      unfolding cell_sum rbns_from ibnr_from
      cell_near i j u w =
          rw (lt-leb (i + j) m w)
          (two_parts (S *ℤ S) x y (r (v *ℤ x) (S *ℤ S)) (r (v *ℤ y) (S *ℤ S)) v (S *ℤ at q j) (at b 0)
          (by_half (r_near.near (v *ℤ x) (S *ℤ S) S²-pos))
          (by_half (r_near.near (v *ℤ y) (S *ℤ S) S²-pos))
          (rw (both_sums j (m - i) u) (by_half (solves j u))))
        where
          x : ℤ
          x = pairs m j (λ k. leb k (m - i)) b p

          y : ℤ
          y = pairs m j (λ k. ltb (m - i) k) b p

          S²-pos : pos 0 ⋖ S *ℤ S
          S²-pos = *ℤ_pos S_pos S_pos

      -- the year's sum against v times the shares of its forecast delays
      pub year_near : (i : ℕ) → 1 ≤ i → i ≤ m
          → Half (S *ℤ S *ℤ year_cells i -ℤ v *ℤ (S *ℤ sum (i - 1) (λ k. at q (suc (m - i + k))))) (pos (i - 1) *ℤ (pos 2 *ℤ (S *ℤ S) +ℤ ∣ v ∣ *ℤ at b 0))
      year_near i h l =
          half_is (sum_parts (i - 1) (λ k. cell_sum i (suc (m - i + k))) (λ k. at q (suc (m - i + k))) ∙ rw (year_cells_lem i h l))
          (half_sum (i - 1) (pos 2 *ℤ (S *ℤ S) +ℤ ∣ v ∣ *ℤ at b 0) (λ k. S *ℤ S *ℤ cell_sum i (suc (m - i + k)) -ℤ v *ℤ (S *ℤ at q (suc (m - i + k))))
          (λ k u. cell_near i (suc (m - i + k)) (omega arith) (omega arith)))
        where
          sum_parts : (n : ℕ) (x y : ℕ → ℤ) → sum n (λ k. S *ℤ S *ℤ x k -ℤ v *ℤ (S *ℤ y k)) ≡ S *ℤ S *ℤ sum n x -ℤ v *ℤ (S *ℤ sum n y)
          sum_parts n x y =
              rw (sum--ℤ n (λ k. S *ℤ S *ℤ x k) (λ k. v *ℤ (S *ℤ y k)), sum-*ℤ_l n (S *ℤ S) x, sum-*ℤ_l n v (λ k. S *ℤ y k), sum-*ℤ_l n S y)
