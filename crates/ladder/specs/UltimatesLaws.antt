-- Laws of ultimates: how large they get, and that they are no less than the latest sums. Assumes
-- nothing.
use Rattle.std.specs.Prelude.{◌≡◌, true, List, ℕ, suc, ◌-◌, ◌*◌, ◌^◌, ◌≤◌, ℤ, pos, nat_abs, ◌*ℤ◌}
use Rattle.std.proofs.Common.{sym}
use native.Mathlib.Omega.{arith}
use Rattle.std.specs.Int.Signed.{<ℤ-≤ℤ_trans}
use Rattle.integers.specs.Parts.{◌⩽◌, ◌⋖◌}
use Rattle.integers.specs.Order.{nat_abs-*ℤ, <ℤ-≤ℤ, *ℤ_nonneg, *ℤ_mono_l}
use Rattle.integers.specs.Sums.{sum_one}
use Rattle.model.specs.Lists.{every}
use Rattle.model.specs.ListsLaws.{every_at}
use Rattle.model.specs.Rounding.{S, r}
use Rattle.model.specs.Shares.{C, latest, B, g, ultimate}
use Rattle.rounding.specs.RoundingLaws.{S_pos, r_abs, r_least, r_nonneg, r_exact}
use Rattle.ladder.specs.SharesLaws.{Sound, g_last, g_range, g_pos, latest_nonneg}
use Rattle.ladder.specs.Sums.{Small}
use Rattle.ladder.specs.SumsLaws.{latest_small}
use Rattle.ladder.specs.Ladder.{bounded}
use Rattle.ladder.specs.LadderLaws.{bounds_abs, bounded_so}

-- |C × S / g| is at most 2 × 10^11 × 10^9 / 10^6
quotient_small : (x y : ℤ) → nat_abs x ≤ 2 * 10 ^ 11 → 10 ^ 6 ≤ nat_abs y → pos 0 ⋖ y → nat_abs (r (x *ℤ S) y) ≤ 2 * 10 ^ 14
unfolding S
quotient_small x y h l p = r_abs (x *ℤ pos (10 ^ 9)) y (2 * 10 ^ 14) p (omega (arith, nat_abs-*ℤ x (pos (10 ^ 9))))

-- ---- any triangle
module _ (m : ℕ) (t : List ℤ) where
  pub ultimate_nonneg : (i : ℕ) → pos 0 ⩽ latest m t i → pos 0 ⋖ g m t (m - i) → pos 0 ⩽ ultimate m t i
  unfolding ultimate
  ultimate_nonneg i h p = r_nonneg (latest m t i *ℤ S) (g m t (m - i)) p (*ℤ_nonneg h (<ℤ-≤ℤ S_pos))

  -- year 1 is all known, and its latest sum is the last column's
  pub ultimate_first : ultimate m t 1 ≡ latest m t 1
  unfolding ultimate
  ultimate_first = rw (g_last m t) (r_exact (latest m t 1) S S_pos)

  pub latest_first : 1 ≤ m → latest m t 1 ≡ B m t (m - 1)
  unfolding latest B
  latest_first h =
      let e : m - (m - 1) ≡ 1 = omega arith in
      rw e (sym (sum_one (λ k. C t (suc k) (m - 1))))

-- any triangle whose cumulative shares are in their bounds
module _ (m : ℕ) (t : List ℤ) (small : Small m (10 ^ 10) t) (ok : every m (λ j. bounded (g m t j)) ≡ true) where
  pub ultimate_small : (i : ℕ) → 1 ≤ i → i ≤ m → nat_abs (ultimate m t i) ≤ 2 * 10 ^ 14
  unfolding ultimate
  ultimate_small i h l =
      let z = bounds_abs (g m t (m - i)) (bounded_so _ (every_at (λ j. bounded (g m t j)) m (m - i) ok (omega arith))) in
      quotient_small (latest m t i) (g m t (m - i)) (latest_small m (10 ^ 10) t small i h l) z.1 z.0

-- counts and paid
module _ (m : ℕ) (t : List ℤ) (sound : Sound m t) where
  pub latest_ultimate : (i : ℕ) → 1 ≤ i → i ≤ m → latest m t i ⩽ ultimate m t i
  unfolding ultimate
  latest_ultimate i h l =
      r_least (latest m t i *ℤ S) (g m t (m - i)) (latest m t i) (g_pos m t sound (m - i) (omega arith))
      (*ℤ_mono_l (latest m t i) (latest_nonneg m t sound i h l) (g_range m t sound (m - i) (omega arith)).1)

  -- an ultimate is at least 1 where the latest sum is
  pub ultimate_pos : (i : ℕ) → 1 ≤ i → i ≤ m → pos 0 ⋖ latest m t i → pos 0 ⋖ ultimate m t i
  ultimate_pos i h l p = <ℤ-≤ℤ_trans p (latest_ultimate i h l)

  pub first_latest : 2 ≤ m → pos 0 ⋖ latest m t 1
  first_latest h = rw (latest_first m t (omega arith)) (sound.columns (m - 1) (omega arith) (omega arith))
