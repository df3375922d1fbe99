-- How large a cell gets: at most 2 × 10^15. What is small is read back from a word. Assumes
-- nothing.
use Rattle.std.specs.Prelude.{List, Bool, true, false, cond, ℕ, ◌+◌, ◌-◌, ◌*◌, ◌^◌, ◌≤◌, ◌<◌, ℤ, pos, nat_abs, ◌*ℤ◌}
use Rattle.std.proofs.Common.{◌≡◌, mul-le-mul, arith, w64, to_z, of_z}
use Rattle.std.proofs.Math.Facts.{to_z-of_z}
use Rattle.rounding.specs.Words.{fits_abs}
use Rattle.std.proofs.Math.Dec.{leb, ltb}
use Rattle.integers.specs.Order.{nat_abs-*ℤ, *ℤ_pos}
use Rattle.model.specs.Rounding.{S, r}
use Rattle.model.specs.Cells.{pairs, rbns_from, ibnr_from}
use Rattle.rounding.specs.RoundingLaws.{S_pos, r_abs}
use Rattle.model.specs.Lists.{at}
use Rattle.cells.specs.Weights.{Weights, Delays}
use Rattle.cells.specs.CellOf.{Year, cell_of}
use Rattle.cells.specs.PairLaws.{pairs_small}

pub read_back : (z : ℤ) → nat_abs z ≤ 9 * 10 ^ 18 → to_z w64 (of_z w64 z) ≡ z
read_back z h = to_z-of_z (fits_abs (omega (arith, h)))

scaled_small : (v x : ℤ) → nat_abs v ≤ 2 * 10 ^ 14 → nat_abs x ≤ 9 * 10 ^ 18 → nat_abs (r (v *ℤ x) (S *ℤ S)) ≤ 2 * 10 ^ 15
unfolding S
scaled_small v x h k =
    r_abs (v *ℤ x) (S *ℤ S) (2 * 10 ^ 15) (*ℤ_pos S_pos S_pos) (rw (nat_abs-*ℤ v x) (let p = mul-le-mul h k in omega arith))

module _ (m : ℕ) (few : m ≤ 20) (v : ℤ) (v_small : nat_abs v ≤ 2 * 10 ^ 14) (x p : List ℤ) (weights : Weights x) (delays : Delays p) (i j : ℕ) where
  pub rbns_small : nat_abs (rbns_from m v x p i j) ≤ 2 * 10 ^ 15
  unfolding rbns_from
  rbns_small =
      scaled_small v (pairs m j (λ k. leb k (m - i)) x p) v_small (pairs_small m j (λ k. leb k (m - i)) x p weights delays few)

  pub ibnr_small : nat_abs (ibnr_from m v x p i j) ≤ 2 * 10 ^ 15
  unfolding ibnr_from
  ibnr_small =
      scaled_small v (pairs m j (λ k. ltb (m - i) k) x p) v_small (pairs_small m j (ltb (m - i)) x p weights delays few)

-- a cell as the code makes it
module _ {m i basis : ℕ} {whole u s p : List ℤ} (year : Year m i basis whole u s p) (v : ℤ) (v_small : nat_abs v ≤ 2 * 10 ^ 14) (j : ℕ) (h : j < 39) where
  known_or : (t : Bool) (z : ℤ) → nat_abs z ≤ 2 * 10 ^ 15 → nat_abs (cond t (pos 0) z) ≤ 2 * 10 ^ 15
  known_or true z l = omega arith
  known_or false z l = l

  pub cell_small : (nat_abs (cell_of m v s p u i j).rbns ≤ 2 * 10 ^ 15) × (nat_abs (cell_of m v s p u i j).ibnr ≤ 2 * 10 ^ 15)
  unfolding cell_of
  cell_small = (
    known_or (leb (i + j) m) _ (rbns_small m year.few v v_small s p year.weights year.delays i j),
    known_or (leb (i + j) m) _ (scaled_small v (at u j) v_small (year.summed j h)),
  )
