-- The absolute value as a whole number, and the calculus of errors: `Half x c` says that 2|x| ≤ c.
-- Errors add up, and are multiplied by what multiplies them. Assumes nothing.
use Rattle.std.specs.Prelude.{◌≡◌, [], ◌∷◌, ℕ, zero, suc, ◌<◌, ℤ, pos, negsuc, neg_ℤ, nat_abs, ◌+ℤ◌, ◌*ℤ◌}
use Rattle.std.proofs.Common.{sym, ap, subst, le_refl, arith}
use Rattle.std.proofs.Math.IntN.{zero-*ℤ}
use Rattle.integers.specs.Parts.{◌⩽◌, ◌⋖◌}
use Rattle.integers.specs.Solver.{ring, form}
use Rattle.integers.specs.Linear.{lin, lin₀, stmt, ◌&◌}
use Rattle.integers.specs.Monomials.{nlin, nstmt}
use Rattle.integers.specs.Order.{nat_abs-*ℤ, nat_abs-neg_ℤ, nonneg, nonneg_pos, *ℤ_mono_l, *ℤ_cancel-≤, ≤ℤ_trans, <ℤ-≤ℤ, ≤_by}
use Rattle.std.specs.Int.Signed.{≤ℤ_refl}
use Rattle.integers.specs.Sums.{sum}

-- ---- the absolute value
unfoldable pub ∣◌∣ : ℤ → ℤ
∣ x ∣ = pos (nat_abs x)

pub abs_up : (x : ℤ) → x ⩽ ∣ x ∣
unfolding ∣◌∣
abs_up x = lin (x ∷ []) (le_refl (nat_abs x)) (search stmt depth 20) (omega arith)

pub abs_dn : (x : ℤ) → neg_ℤ x ⩽ ∣ x ∣
unfolding ∣◌∣
abs_dn x = lin (x ∷ []) (le_refl (nat_abs x)) (search stmt depth 20) (omega arith)

pub abs_in : (x c : ℤ) → x ⩽ c → neg_ℤ x ⩽ c → ∣ x ∣ ⩽ c
unfolding ∣◌∣
abs_in (pos n) c h k = h
abs_in (negsuc n) c h k = k

pub abs_nonneg : (x : ℤ) → pos 0 ⩽ ∣ x ∣
unfolding ∣◌∣
abs_nonneg x = nonneg (nat_abs x)

pub abs_of : {x : ℤ} → pos 0 ⩽ x → ∣ x ∣ ≡ x
unfolding ∣◌∣
abs_of h = sym (nonneg_pos h)

pub abs-* : (x y : ℤ) → ∣ x *ℤ y ∣ ≡ ∣ x ∣ *ℤ ∣ y ∣
unfolding ∣◌∣
abs-* x y = ap pos (nat_abs-*ℤ x y)

pub abs-+ : (x y : ℤ) → ∣ x +ℤ y ∣ ⩽ ∣ x ∣ +ℤ ∣ y ∣
abs-+ x y =
    abs_in (x +ℤ y) (∣ x ∣ +ℤ ∣ y ∣)
    (lin (x ∷ y ∷ ∣ x ∣ ∷ ∣ y ∣ ∷ []) (abs_up x & abs_up y) (search stmt depth 20) (omega arith))
    (lin (x ∷ y ∷ ∣ x ∣ ∷ ∣ y ∣ ∷ []) (abs_dn x & abs_dn y) (search stmt depth 20) (omega arith))

-- ---- errors
pub record Half (x c : ℤ) : Type 0 where
  pub half : pos 2 *ℤ ∣ x ∣ ⩽ c

pub by_half : {x c : ℤ} → pos 2 *ℤ ∣ x ∣ ⩽ c → Half x c
by_half h = record { half = h }

pub half_up : {x c : ℤ} → Half x c → pos 2 *ℤ x ⩽ c
half_up {x} {c} h = lin (x ∷ ∣ x ∣ ∷ c ∷ []) (h.half & abs_up x) (search stmt depth 20) (omega arith)

pub half_is : {x y c : ℤ} → x ≡ y → Half x c → Half y c
half_is {c = c} e h = subst (λ z. Half z c) e h

pub half-≤ : {x c d : ℤ} → Half x c → c ⩽ d → Half x d
half-≤ h k = by_half (≤ℤ_trans h.half k)

pub half_zero : Half (pos 0) (pos 0)
unfolding ∣◌∣
half_zero = by_half (≤ℤ_refl (pos 0))

pub half-+ : {x y c d : ℤ} → Half x c → Half y d → Half (x +ℤ y) (c +ℤ d)
half-+ {x} {y} {c} {d} h k =
    by_half (lin (∣ x ∣ ∷ ∣ y ∣ ∷ ∣ x +ℤ y ∣ ∷ c ∷ d ∷ []) (h.half & k.half & abs-+ x y) (search stmt depth 20) (omega arith))

pub half_neg : {x c : ℤ} → Half x c → Half (neg_ℤ x) c
unfolding ∣◌∣
half_neg {x} {c} h = by_half (subst (λ (n : ℕ). pos 2 *ℤ pos n ⩽ c) (sym (nat_abs-neg_ℤ x)) h.half)

pub half-* : (v : ℤ) {x c : ℤ} → Half x c → Half (v *ℤ x) (∣ v ∣ *ℤ c)
half-* v {x} {c} h =
    by_half (rw (abs-* v x) (nlin (∣ v ∣ ∷ ∣ x ∣ ∷ c ∷ []) (*ℤ_mono_l ∣ v ∣ (abs_nonneg v) h.half) (search nstmt depth 20) (omega arith)))

-- by a factor that is not negative
pub half-*⁺ : (v : ℤ) → pos 0 ⩽ v → {x c : ℤ} → Half x c → Half (v *ℤ x) (v *ℤ c)
half-*⁺ v p {x} {c} h = subst (λ z. Half (v *ℤ x) (z *ℤ c)) (abs_of p) (half-* v h)

-- a positive factor is struck out
pub half_cancel : (v : ℤ) → pos 0 ⋖ v → {x c : ℤ} → Half (v *ℤ x) (v *ℤ c) → Half x c
half_cancel v p {x} {c} h =
    by_half (*ℤ_cancel-≤ v p (≤_by (rw (abs-* v x, abs_of (<ℤ-≤ℤ p)) at h.half) (ring (v ∷ ∣ x ∣ ∷ c ∷ []) (search form depth 20) tt)))

pub half_sum : (n : ℕ) (c : ℤ) (f : ℕ → ℤ) → ((k : ℕ) → k < n → Half (f k) c) → Half (sum n f) (pos n *ℤ c)
unfolding sum
half_sum zero c f h = subst (Half (pos 0)) (sym (zero-*ℤ c)) half_zero
half_sum (suc n) c f h =
    half-≤ (half-+ (half_sum n c f (λ k l. h k (omega arith))) (h n (omega arith)))
    (lin₀ (c ∷ []) (search stmt depth 20) (omega arith))
