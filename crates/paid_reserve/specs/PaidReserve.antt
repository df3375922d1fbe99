-- A year's forecast at the delays below m against its unrounded paid chain-ladder reserve. Assumes
-- nothing.
use Rattle.std.specs.Prelude.{◌≡◌, List, [], ◌∷◌, ℕ, suc, ◌+◌, ◌-◌, ◌≤◌, ℤ, neg_ℤ, ◌+ℤ◌, ◌*ℤ◌, ◌-ℤ◌}
use Rattle.std.proofs.Common.{◌∙◌, ap}
use native.Mathlib.Omega.{arith}
use Rattle.std.proofs.Math.IntN.{pos}
use Rattle.integers.specs.Parts.{◌⩽◌, ◌⋖◌, ints}
use Rattle.integers.specs.Solver.{ring, form}
use Rattle.integers.specs.Linear.{◌&◌}
use Rattle.integers.specs.Monomials.{nlin, nstmt}
use Rattle.integers.specs.Order.{<ℤ-≤ℤ, <ℤ_suc, sub_nonneg, *ℤ_mono_r, *ℤ_mono_l, *ℤ_nonneg, *ℤ_pos, nonneg}
use Rattle.integers.specs.Absolute.{∣◌∣, Half, by_half, half_is, half-≤, half-+, half-*⁺, half_neg, half_cancel, half_up, abs_of, abs-*, abs_nonneg}
use Rattle.integers.specs.Sums.{sum, sum_cong}
use Rattle.model.specs.Lists.{at}
use Rattle.model.specs.Rounding.{S}
use Rattle.model.specs.Shares.{latest, g, b_list, ultimate}
use Rattle.model.specs.PaidReserve.{Fraction, whole, plus, minus, times, over, distance, AtMost, G}
use Rattle.rounding.specs.RoundingLaws.{S_pos, r_near, r_within}
use Rattle.ladder.specs.SharesLaws.{Sound, at_b_list, shares_left, g_pos, latest_nonneg}
use Rattle.solver.specs.DelaysLaws.{Solves}
use Rattle.paid_reserve.specs.ExactShares.{Apart, shares_apart}
use Rattle.paid_reserve.specs.YearSum.{year_cells, year_near}

-- with b(0) at most S, and S struck out
year_algebra : (s z v x b a : ℤ) (n : ℕ) → pos 0 ⋖ s → pos 0 ⩽ a → b ⩽ s → Half (s *ℤ s *ℤ z -ℤ v *ℤ (s *ℤ x)) (pos n *ℤ (pos 2 *ℤ (s *ℤ s) +ℤ a *ℤ b))
    → Half (s *ℤ z -ℤ v *ℤ x) (pos n *ℤ (pos 2 *ℤ s +ℤ a))
year_algebra s z v x b a n p q k h =
    half_cancel s p (half-≤ (half_is (ring (s ∷ z ∷ v ∷ x ∷ []) (search form depth 20) tt) h)
    (nlin (s ∷ b ∷ a ∷ pos n ∷ []) (*ℤ_mono_l (pos n *ℤ a) (*ℤ_nonneg (nonneg n) q) k) (search nstmt depth 20) (omega arith)))

-- the three errors put together: z the year's sum, w its ultimate, c its latest sum, t / u the
-- unrounded share, g the rounded one
pub bound_algebra : (s g t u c w z i : ℤ) (n : ℕ) → i ≡ pos n +ℤ pos 1 → pos n ⩽ s
    → pos 0 ⋖ s → pos 0 ⋖ g → g ⩽ s → pos 0 ⋖ t → t ⩽ s *ℤ u → pos 0 ⩽ c
    → Half (s *ℤ z -ℤ w *ℤ (s -ℤ g)) (pos n *ℤ (pos 2 *ℤ s +ℤ w))
    → Half (g *ℤ w -ℤ c *ℤ s) g
    → Half (g *ℤ u -ℤ t) (pos n *ℤ u)
    → Half (g *ℤ (z *ℤ t -ℤ (c *ℤ s *ℤ u -ℤ c *ℤ t))) (pos 2 *ℤ (i *ℤ g *ℤ t +ℤ pos n *ℤ (c *ℤ s *ℤ u)))
bound_algebra s g t u c w z i n one small s_pos g_pos g_s t_pos t_s c_low hz hw hg =
    half_cancel s s_pos (half-≤ (half_is split errors) small_enough)
  where
    c_s : pos 0 ⩽ c *ℤ s
    c_s = *ℤ_nonneg c_low (<ℤ-≤ℤ s_pos)

    t_g : pos 0 ⩽ t *ℤ g
    t_g = *ℤ_nonneg (<ℤ-≤ℤ t_pos) (<ℤ-≤ℤ g_pos)

    errors : Half (t *ℤ g *ℤ (s *ℤ z -ℤ w *ℤ (s -ℤ g)) +ℤ c *ℤ s *ℤ s *ℤ neg_ℤ (g *ℤ u -ℤ t) +ℤ t *ℤ (s -ℤ g) *ℤ (g *ℤ w -ℤ c *ℤ s))
        (t *ℤ g *ℤ (pos n *ℤ (pos 2 *ℤ s +ℤ w)) +ℤ c *ℤ s *ℤ s *ℤ (pos n *ℤ u) +ℤ t *ℤ (s -ℤ g) *ℤ g)
    errors =
        half-+ (half-+ (half-*⁺ (t *ℤ g) t_g hz) (half-*⁺ (c *ℤ s *ℤ s) (*ℤ_nonneg c_s (<ℤ-≤ℤ s_pos)) (half_neg hg)))
        (half-*⁺ (t *ℤ (s -ℤ g)) (*ℤ_nonneg (<ℤ-≤ℤ t_pos) (sub_nonneg.0 g_s)) hw)

    split : t *ℤ g *ℤ (s *ℤ z -ℤ w *ℤ (s -ℤ g)) +ℤ c *ℤ s *ℤ s *ℤ neg_ℤ (g *ℤ u -ℤ t) +ℤ t *ℤ (s -ℤ g) *ℤ (g *ℤ w -ℤ c *ℤ s)
        ≡ s *ℤ (g *ℤ (z *ℤ t -ℤ (c *ℤ s *ℤ u -ℤ c *ℤ t)))
    split = ring (s ∷ g ∷ t ∷ u ∷ c ∷ w ∷ z ∷ []) (search form depth 20) tt

    small_enough : t *ℤ g *ℤ (pos n *ℤ (pos 2 *ℤ s +ℤ w)) +ℤ c *ℤ s *ℤ s *ℤ (pos n *ℤ u) +ℤ t *ℤ (s -ℤ g) *ℤ g
        ⩽ s *ℤ (pos 2 *ℤ (i *ℤ g *ℤ t +ℤ pos n *ℤ (c *ℤ s *ℤ u)))
    small_enough =
        nlin (s ∷ g ∷ t ∷ u ∷ c ∷ w ∷ i ∷ pos n ∷ [])
        (*ℤ_mono_r (pos n *ℤ t) (*ℤ_nonneg (nonneg n) (<ℤ-≤ℤ t_pos)) (half_up hw)
        & *ℤ_mono_r (pos n *ℤ (c *ℤ s)) (*ℤ_nonneg (nonneg n) c_s) t_s
        & *ℤ_mono_r (t *ℤ g) t_g small
        & *ℤ_nonneg t_g (<ℤ-≤ℤ g_pos)
        & *ℤ_nonneg t_g (<ℤ-≤ℤ s_pos)
        & ap (λ (x : ℤ). x *ℤ (s *ℤ t *ℤ g)) one)
        (search nstmt depth 20) (omega arith)

-- the same as fractions
pub fraction_algebra : (s g t u c z i : ℤ) (n : ℕ) → pos 0 ⋖ g → pos 0 ⋖ t
    → Half (g *ℤ (z *ℤ t -ℤ (c *ℤ s *ℤ u -ℤ c *ℤ t))) (pos 2 *ℤ (i *ℤ g *ℤ t +ℤ pos n *ℤ (c *ℤ s *ℤ u)))
    → (let e : Fraction = record { upper = t; lower = u } in
    AtMost (distance (whole z) (minus (over (whole (c *ℤ s)) e) (whole c))) (plus (whole i) (over (times (whole (pos n)) (over (whole (c *ℤ s)) e)) (whole g))))
fraction_algebra s g t u c z i n g_pos t_pos h = record {
  left_lower = nlin (t ∷ []) t_pos (search nstmt depth 20) (omega arith);
  right_lower = nlin (t ∷ g ∷ []) (*ℤ_pos t_pos g_pos) (search nstmt depth 20) (omega arith);
  multiplied_out =
      rw same
      (nlin (∣ gap ∣ ∷ s ∷ g ∷ t ∷ u ∷ c ∷ i ∷ pos n ∷ [])
      (*ℤ_mono_r t (<ℤ-≤ℤ t_pos) (rw (abs-* g gap, abs_of (<ℤ-≤ℤ g_pos)) at h.half)) (search nstmt depth 20) (omega arith));
}
  where
    gap : ℤ
    gap = z *ℤ t -ℤ (c *ℤ s *ℤ u -ℤ c *ℤ t)

    same : z *ℤ (pos 1 *ℤ t *ℤ pos 1) -ℤ (c *ℤ s *ℤ u *ℤ pos 1 -ℤ c *ℤ (pos 1 *ℤ t)) *ℤ pos 1 ≡ gap
    same = ring (z ∷ t ∷ c ∷ s ∷ u ∷ []) (search form depth 20) tt

-- a year i of a sound paid triangle
module _ (m : ℕ) (few : m ≤ 20) (paid : List ℤ) (ok : Sound m paid) (i : ℕ) (h : 1 ≤ i) (l : i ≤ m) where
  -- its latest sum, ultimate, rounded share, and unrounded share
  abbrev c : ℤ
  c = latest m paid i

  abbrev w : ℤ
  w = ultimate m paid i

  abbrev x : ℤ
  x = g m paid (m - i)

  abbrev t : ℤ
  t = (G m paid (m - i)).upper

  abbrev u : ℤ
  u = (G m paid (m - i)).lower

  pub x_pos : pos 0 ⋖ x
  x_pos = g_pos m paid ok (m - i) (omega arith)

  pub c_low : pos 0 ⩽ c
  c_low = latest_nonneg m paid ok i h l

  pub ultimate_near : Half (x *ℤ w -ℤ c *ℤ S) x
  unfolding ultimate
  ultimate_near = by_half (r_near.near (c *ℤ S) x x_pos)

  pub ultimate_nonneg : pos 0 ⩽ w
  unfolding ultimate
  ultimate_nonneg =
      (r_within (c *ℤ S) x (c *ℤ S) x_pos c_s_low
      (nlin (c ∷ S ∷ x ∷ []) (*ℤ_mono_l (c *ℤ S) c_s_low (<ℤ_suc.0 x_pos)) (search nstmt depth 20) (omega arith))).0
    where
      c_s_low : pos 0 ⩽ c *ℤ S
      c_s_low = *ℤ_nonneg c_low (<ℤ-≤ℤ S_pos)

  pub at_x : Apart (i - 1) x (record { upper = t; lower = u })
  at_x = let e : m - 1 - (m - i) ≡ i - 1 = omega arith in rw e at (shares_apart m paid ok (m - i) (omega arith))

  pub few_years : pos (i - 1) ⩽ S
  unfolding S
  few_years = omega (arith, ints)

  -- the shares of its forecast delays add up to S - g(m-i)
  shares_ahead : sum (i - 1) (λ k. at (b_list m paid) (suc (m - i + k))) ≡ S -ℤ x
  shares_ahead = sum_cong (i - 1) (λ k v. at_b_list m paid few (suc (m - i + k)) (omega arith)) ∙ shares_left m paid (m - i) (i - 1) (omega arith)

  module _ (b p : List ℤ) (solves : Solves m b (b_list m paid) p) (b-S : at b 0 ⩽ S) where
    -- for any row base v and any delays that solve the system
    pub any_base : (v : ℤ) → Half (S *ℤ year_cells m b p v i -ℤ v *ℤ (S -ℤ x)) (pos (i - 1) *ℤ (pos 2 *ℤ S +ℤ ∣ v ∣))
    any_base v =
        year_algebra S (year_cells m b p v i) v (S -ℤ x) (at b 0) ∣ v ∣ (i - 1) S_pos (abs_nonneg v) b-S
        (rw (← shares_ahead) (year_near m b p v (b_list m paid) solves i h l))
