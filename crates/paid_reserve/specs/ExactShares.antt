-- Shares rounded at each step against shares that are never rounded, for a sound triangle. Assumes
-- nothing.
use Rattle.std.proofs.Common.{sym, add-one, arith}
use Rattle.std.specs.Prelude.{List, [], ◌∷◌, ℤ, pos, ◌+ℤ◌, ◌*ℤ◌, ◌-ℤ◌}
use Prim.Native.Nat.{ℕ, zero, suc, ◌-◌, ◌<◌}
use Rattle.integers.specs.Parts.{◌⩽◌, ◌⋖◌, ints}
use Rattle.integers.specs.Ring.{*ℤ_one'}
use Rattle.integers.specs.Solver.{ring, form}
use Rattle.integers.specs.Linear.{◌&◌}
use Rattle.integers.specs.Monomials.{nlin, nstmt}
use Rattle.integers.specs.Order.{<ℤ-≤ℤ, ≤ℤ_of-≡, *ℤ_mono_r, *ℤ_mono_l, *ℤ_nonneg, *ℤ_pos, nonneg}
use Rattle.integers.specs.Absolute.{Half, by_half, half_zero, half-+, half-*⁺, half-≤, half_is}
use Rattle.model.specs.Rounding.{S, r}
use Rattle.model.specs.Shares.{A, B, g_down, g}
use Rattle.model.specs.PaidReserve.{Fraction, whole, times, GDown, G}
use Rattle.rounding.specs.RoundingLaws.{S_pos, r_near}
use Rattle.ladder.specs.SharesLaws.{Sound, A_pos, A-B}

-- n steps down from S: x is the rounded share, e the unrounded one
pub record Apart (n : ℕ) (x : ℤ) (e : Fraction) : Type 0 where
  pub upper_pos : pos 0 ⋖ e.upper
  pub lower_pos : pos 0 ⋖ e.lower
  pub at_most-S : e.upper ⩽ S *ℤ e.lower
  pub apart : Half (x *ℤ e.lower -ℤ e.upper) (pos n *ℤ e.lower)

none_apart : Apart 0 S (whole S)
none_apart = record {
  upper_pos = S_pos;
  lower_pos = omega (arith, ints);
  at_most-S = ≤ℤ_of-≡ (sym (*ℤ_one' S));
  apart = half_is (ring (S ∷ []) (search form depth 20) tt) half_zero;
}

one_more : (n : ℕ) (u a b : ℤ) → pos 0 ⩽ u → a ⩽ b → a *ℤ (pos n *ℤ u) +ℤ u *ℤ b ⩽ pos (suc n) *ℤ (u *ℤ b)
one_more n u a b p h =
    rw (← add-one n)
    (nlin (pos n ∷ u ∷ a ∷ b ∷ []) (*ℤ_mono_l (pos n *ℤ u) (*ℤ_nonneg (nonneg n) p) h) (search nstmt depth 20) (omega arith))

-- one step from x and t / u, by the factor a / b: half a unit more comes in, and no error grows
next_apart : (n : ℕ) (x t u a b : ℤ) → pos 0 ⋖ a → a ⩽ b → pos 0 ⋖ b → Apart n x (record { upper = t; lower = u })
    → Apart (suc n) (r (x *ℤ a) b) (times (record { upper = t; lower = u }) (record { upper = a; lower = b }))
next_apart n x t u a b a_pos a_b b_pos h = record {
  upper_pos = *ℤ_pos h.upper_pos a_pos;
  lower_pos = *ℤ_pos h.lower_pos b_pos;
  at_most-S =
      nlin (t ∷ u ∷ a ∷ b ∷ S ∷ [])
      (*ℤ_mono_r a (<ℤ-≤ℤ a_pos) h.at_most-S & *ℤ_mono_l (S *ℤ u) (*ℤ_nonneg (<ℤ-≤ℤ S_pos) u_low) a_b)
      (search nstmt depth 20) (omega arith);
  apart =
      half-≤
      (half_is (ring (x ∷ r (x *ℤ a) b ∷ t ∷ u ∷ a ∷ b ∷ []) (search form depth 20) tt)
      (half-+ (half-*⁺ a (<ℤ-≤ℤ a_pos) h.apart) (half-*⁺ u u_low (by_half (r_near.near (x *ℤ a) b b_pos)))))
      (one_more n u a b u_low a_b);
}
  where
    u_low : pos 0 ⩽ u
    u_low = <ℤ-≤ℤ h.lower_pos

module _ (m : ℕ) (t : List ℤ) (ok : Sound m t) where
  down_apart : (n : ℕ) → n < m → Apart n (g_down m t n) (GDown m t n)
  unfolding g_down GDown
  down_apart zero h = none_apart
  down_apart (suc n) h =
      let j : ℕ = m - 1 - n in
      next_apart n (g_down m t n) (GDown m t n).upper (GDown m t n).lower (A m t j) (B m t j)
      (A_pos m t ok j (omega arith) (omega arith)) (A-B m t ok.cells j (omega arith) (omega arith)) (ok.columns j (omega arith) (omega arith))
      (down_apart n (omega arith))

  -- g(j) against G(j)
  pub shares_apart : (j : ℕ) → j < m → Apart (m - 1 - j) (g m t j) (G m t j)
  unfolding g G
  shares_apart j h = down_apart (m - 1 - j) (omega arith)
