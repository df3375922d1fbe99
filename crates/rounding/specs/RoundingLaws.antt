-- Laws of r. What stands above cites these by name and never opens r or nearest. Of the laws only
-- `r_even` knows how a half is rounded: each other one holds for any rounding to the nearest number
-- that keeps the sign. Assumes nothing.
use Rattle.std.specs.Prelude.{◌≡◌, refl, ◌⊎◌, [], ◌∷◌, ℕ, zero, suc, ◌+◌, ◌*◌, ◌/◌, ◌%◌, ◌≤◌, ◌<◌, ltb, ℤ, pos, negsuc, neg_ℤ, nat_abs, ◌+ℤ◌, ◌-ℤ◌, ◌*ℤ◌}
use Rattle.std.proofs.Common.{sym, ap, ◌∙◌, inl, inr, le_refl, mod-lt, div-add-mod', suc-mul, mul-le-mul, arith, ltb-true, ltb-false, le-ltb}
use Rattle.std.proofs.Math.Arith.{digits_div, digits_mod}
use Rattle.std.proofs.Math.IntN.{neg_ℤ-neg_ℤ}
use Rattle.std.specs.Int.Signed.{clash_ℤ, ≤ℤ_refl}
use Rattle.integers.specs.Parts.{◌⩽◌, ◌⋖◌, ints, mul_parts}
use Rattle.integers.specs.Ring.{neg_ℤ-*ℤ}
use Rattle.integers.specs.Solver.{ring, form}
use Rattle.integers.specs.Linear.{◌&◌}
use Rattle.integers.specs.Monomials.{nlin, nstmt}
use Rattle.integers.specs.Order.{<ℤ_or-≥, <ℤ-≤ℤ, <ℤ_suc, *ℤ_mono_r, ≤ℤ_antisym, nonneg, pos_mono, nat_abs-≤, nat_abs_mono, nat_abs-neg_ℤ}
use Rattle.integers.specs.Absolute.{∣◌∣}
use Rattle.model.specs.Rounding.{S, even_of, nearest, r, WithinHalf}
use Rattle.model.specs.Tests.{by_test}

pub S_pos : pos 0 ⋖ S
unfolding S
S_pos = omega (arith, ints)

-- ---- in ℕ: twice the distance is at most b

even_between : (k : ℕ) → (k ≤ even_of k) × (even_of k ≤ suc k)
unfolding even_of
even_between k = (omega arith, omega arith)

nearest_bounds : (a b : ℕ) → 0 < b → (2 * (nearest a b * b) ≤ 2 * a + b) × (2 * a ≤ 2 * (nearest a b * b) + b)
unfolding nearest
nearest_bounds a b h =
    by_test (ltb (2 * (a % b)) b)
    (λ e. let l = ltb-true (2 * (a % b)) b e in rw e (omega (arith, div-add-mod' a b), omega (arith, div-add-mod' a b)))
    (λ e. let l = ltb-false (2 * (a % b)) b e in
    by_test (ltb b (2 * (a % b)))
    (λ f. rw (e, f) (omega (arith, div-add-mod' a b, suc-mul (a / b) b), omega (arith, div-add-mod' a b, suc-mul (a / b) b, mod-lt a h)))
    (λ f. let u = ltb-false b (2 * (a % b)) f in
    let low = mul-le-mul (even_between (a / b)).0 (le_refl b) in
    let high = mul-le-mul (even_between (a / b)).1 (le_refl b) in
    rw (e, f) (omega (arith, div-add-mod' a b, suc-mul (a / b) b, low, high), omega (arith, div-add-mod' a b, suc-mul (a / b) b, low, high))))

nearest_zero : (b : ℕ) → 0 < b → nearest 0 b ≡ 0
nearest_zero b h = go (nearest 0 b) (nearest_bounds 0 b h).0
  where
    go : (k : ℕ) → 2 * (k * b) ≤ 2 * 0 + b → k ≡ 0
    go zero l = refl
    go (suc k) l = absurd (omega (arith, suc-mul k b))

-- ---- what the laws rest on

-- the sign goes through
pub r_neg : (a b : ℤ) → pos 0 ⋖ b → r (neg_ℤ a) b ≡ neg_ℤ (r a b)
unfolding r
r_neg (pos zero) (pos b) h = rw (nearest_zero b (omega (arith, ints)))
r_neg (pos zero) (negsuc b) h = absurd h.lt
r_neg (pos (suc n)) b h = refl
r_neg (negsuc n) b h = sym (neg_ℤ-neg_ℤ (pos (nearest (suc n) (nat_abs b))))

bounds⁺ : (n b : ℕ) → pos 0 ⋖ pos b → (pos 2 *ℤ (r (pos n) (pos b) *ℤ pos b) ⩽ pos 2 *ℤ pos n +ℤ pos b) × (pos 2 *ℤ pos n ⩽ pos 2 *ℤ (r (pos n) (pos b) *ℤ pos b) +ℤ pos b)
unfolding r
bounds⁺ n b h = let g : 0 < b = omega (arith, ints) in (omega (arith, ints, (nearest_bounds n b g).0), omega (arith, ints, (nearest_bounds n b g).1))

r_bounds : (a b : ℤ) → pos 0 ⋖ b → (pos 2 *ℤ (r a b *ℤ b) ⩽ pos 2 *ℤ a +ℤ b) × (pos 2 *ℤ a ⩽ pos 2 *ℤ (r a b *ℤ b) +ℤ b)
r_bounds a (negsuc b) h = absurd h.lt
r_bounds (pos n) (pos b) h = bounds⁺ n b h
r_bounds (negsuc n) (pos b) h = turned (r (pos (suc n)) (pos b)) (r (negsuc n) (pos b)) (pos (suc n)) (pos b) (r_neg (pos (suc n)) (pos b) h) (bounds⁺ (suc n) b h)
  where
    turned : (k k' a b : ℤ) → k' ≡ neg_ℤ k → (pos 2 *ℤ (k *ℤ b) ⩽ pos 2 *ℤ a +ℤ b) × (pos 2 *ℤ a ⩽ pos 2 *ℤ (k *ℤ b) +ℤ b)
        → (pos 2 *ℤ (k' *ℤ b) ⩽ pos 2 *ℤ neg_ℤ a +ℤ b) × (pos 2 *ℤ neg_ℤ a ⩽ pos 2 *ℤ (k' *ℤ b) +ℤ b)
    turned k k' a b e h = rw e (nlin (k ∷ a ∷ b ∷ []) (h.0 & h.1) (search nstmt depth 20) (omega arith), nlin (k ∷ a ∷ b ∷ []) (h.0 & h.1) (search nstmt depth 20) (omega arith))

-- within one half, as two orders
pub r_upper : (a b : ℤ) → pos 0 ⋖ b → pos 2 *ℤ (r a b *ℤ b) ⩽ pos 2 *ℤ a +ℤ b
r_upper a b h = (r_bounds a b h).0

pub r_lower : (a b : ℤ) → pos 0 ⋖ b → pos 2 *ℤ a ⩽ pos 2 *ℤ (r a b *ℤ b) +ℤ b
r_lower a b h = (r_bounds a b h).1

-- ---- what follows

-- a factor in common
below_next : (k z b : ℤ) → pos 0 ⋖ b → k *ℤ b ⋖ z *ℤ b +ℤ b → k ⩽ z
below_next k z b h l = go (<ℤ_or-≥ z k)
  where
    go : (z ⋖ k) ⊎ (k ⩽ z) → k ⩽ z
    go (inl g) = clash_ℤ l (nlin (k ∷ z ∷ b ∷ []) (*ℤ_mono_r b (<ℤ-≤ℤ h) (<ℤ_suc.0 g)) (search nstmt depth 20) (omega arith))
    go (inr g) = g

twice : (x b : ℤ) → pos 2 *ℤ x ⩽ b → neg_ℤ b ⩽ pos 2 *ℤ x → pos 2 *ℤ ∣ x ∣ ⩽ b
unfolding ∣◌∣
twice (pos n) b h k = h
twice (negsuc n) b h k = nlin (negsuc n ∷ b ∷ []) {G = pos 2 *ℤ neg_ℤ (negsuc n) ⩽ b} k (search nstmt depth 20) (omega arith)

-- r is within one half
pub r_near : WithinHalf r
r_near = record {
  near = λ a b h.
      twice (b *ℤ r a b -ℤ a) b
      (nlin (r a b ∷ a ∷ b ∷ []) (r_upper a b h) (search nstmt depth 20) (omega arith))
      (nlin (r a b ∷ a ∷ b ∷ []) (r_lower a b h) (search nstmt depth 20) (omega arith));
}

-- nothing else is nearer than one half
pub r_unique : (a b z : ℤ) → pos 0 ⋖ b → pos 2 *ℤ (z *ℤ b) ⋖ pos 2 *ℤ a +ℤ b → pos 2 *ℤ a ⋖ pos 2 *ℤ (z *ℤ b) +ℤ b → r a b ≡ z
r_unique a b z h l u =
    ≤ℤ_antisym
    (below_next (r a b) z b h (nlin (r a b ∷ a ∷ b ∷ z ∷ []) (r_upper a b h & u) (search nstmt depth 20) (omega arith)))
    (below_next z (r a b) b h (nlin (r a b ∷ a ∷ b ∷ z ∷ []) (r_lower a b h & l) (search nstmt depth 20) (omega arith)))

-- a whole number at or above a / b bounds it
pub r_most : (a b c : ℤ) → pos 0 ⋖ b → a ⩽ c *ℤ b → r a b ⩽ c
r_most a b c h l = below_next (r a b) c b h (nlin (r a b ∷ a ∷ b ∷ c ∷ []) (r_upper a b h & l & h) (search nstmt depth 20) (omega arith))

-- and one at or below a / b
pub r_least : (a b c : ℤ) → pos 0 ⋖ b → c *ℤ b ⩽ a → c ⩽ r a b
r_least a b c h l = below_next c (r a b) b h (nlin (r a b ∷ a ∷ b ∷ c ∷ []) (r_lower a b h & l & h) (search nstmt depth 20) (omega arith))

-- at a multiple of b
pub r_exact : (k b : ℤ) → pos 0 ⋖ b → r (k *ℤ b) b ≡ k
r_exact k b h = ≤ℤ_antisym (r_most (k *ℤ b) b k h (≤ℤ_refl (k *ℤ b))) (r_least (k *ℤ b) b k h (≤ℤ_refl (k *ℤ b)))

-- the sign is kept
pub r_nonneg : (a b : ℤ) → pos 0 ⋖ b → pos 0 ⩽ a → pos 0 ⩽ r a b
r_nonneg a b h l = r_least a b (pos 0) h (nlin (a ∷ b ∷ []) l (search nstmt depth 20) (omega arith))

-- from 0 to c
pub r_within : (a b c : ℤ) → pos 0 ⋖ b → pos 0 ⩽ a → a ⩽ c *ℤ b → (pos 0 ⩽ r a b) × (r a b ⩽ c)
r_within a b c h l u = (r_nonneg a b h l, r_most a b c h u)

-- ---- magnitudes

-- |r(a/b)| <= c where |a| <= c × b
pub r_abs : (a b : ℤ) (c : ℕ) → pos 0 ⋖ b → nat_abs a ≤ c * nat_abs b → nat_abs (r a b) ≤ c
r_abs a (negsuc b) c h l = absurd h.lt
r_abs a (pos b) c h l = nat_abs-≤.1 (
  r_most a (pos b) (pos c) h (nat_abs-≤.0 l).0,
  r_least a (pos b) (neg_ℤ (pos c)) h (rw neg_ℤ-*ℤ (nat_abs-≤.0 l).1),
)

-- and c <= |r(a/b)| where c × b <= |a|
pub r_abs_least : (a b : ℤ) (c : ℕ) → pos 0 ⋖ b → c * nat_abs b ≤ nat_abs a → c ≤ nat_abs (r a b)
r_abs_least a (negsuc b) c h l = absurd h.lt
r_abs_least (pos a) (pos b) c h l = omega (arith, ints, nat_abs_mono (nonneg c) (r_least (pos a) (pos b) (pos c) h (pos_mono.0 l)))
r_abs_least (negsuc a) (pos b) c h l =
    rw (r_neg (pos (suc a)) (pos b) h, nat_abs-neg_ℤ) (nat_abs_mono (nonneg c) (r_least (pos (suc a)) (pos b) (pos c) h (pos_mono.0 l)))

-- ---- from a quotient and a remainder

-- with both signs turned
pub r_mirror : (q c b : ℤ) → pos 0 ⋖ b → r (q *ℤ b +ℤ c) b ≡ neg_ℤ (r (neg_ℤ q *ℤ b +ℤ neg_ℤ c) b)
r_mirror q c b h =
    let e : q *ℤ b +ℤ c ≡ neg_ℤ (neg_ℤ q *ℤ b +ℤ neg_ℤ c) = ring (q ∷ c ∷ b ∷ []) (search form depth 20) tt in
    ap (λ (z : ℤ). r z b) e ∙ r_neg (neg_ℤ q *ℤ b +ℤ neg_ℤ c) b h

-- a remainder below half of b
pub r_quotient : (q c b : ℤ) → pos 0 ⋖ b → neg_ℤ b ⋖ pos 2 *ℤ c → pos 2 *ℤ c ⋖ b → r (q *ℤ b +ℤ c) b ≡ q
r_quotient q c b h l u =
    r_unique (q *ℤ b +ℤ c) b q h
    (nlin (q ∷ c ∷ b ∷ []) l (search nstmt depth 20) (omega arith))
    (nlin (q ∷ c ∷ b ∷ []) u (search nstmt depth 20) (omega arith))

-- ---- at a half

-- k times b and at most half of b, for an even k
up_to_half : (k c b : ℕ) → 0 < b → k % 2 ≡ 0 → 2 * c ≤ b → nearest (k * b + c) b ≡ k
unfolding nearest even_of
up_to_half k c b h e l =
    let c<b : c < b = omega arith in
    rw (digits_mod k c<b, digits_div k c<b)
    (by_test (ltb (2 * c) b) (λ t. rw t refl)
    (λ t. let g = ltb-false (2 * c) b t in rw (t, le-ltb b (2 * c) l) (omega arith)))

-- and from half of b on, where k + 1 is even
from_half : (k c b : ℕ) → suc k % 2 ≡ 0 → b ≤ 2 * c → c < b → nearest (k * b + c) b ≡ suc k
unfolding nearest even_of
from_half k c b e l c<b =
    rw (digits_mod k c<b, digits_div k c<b, le-ltb (2 * c) b l)
    (by_test (ltb b (2 * c)) (λ t. rw t refl)
    (λ t. rw t (omega arith)))

-- the same of integers
up_to_half⁺ : (k : ℕ) (c b : ℤ) → pos 0 ⋖ b → k % 2 ≡ 0 → pos 0 ⩽ c → pos 2 *ℤ c ⩽ b → r (pos k *ℤ b +ℤ c) b ≡ pos k
unfolding r
up_to_half⁺ k c (negsuc b) h e l u = absurd h.lt
up_to_half⁺ k (negsuc c) (pos b) h e l u = absurd l.le
up_to_half⁺ k (pos c) (pos b) h e l u = ap pos (up_to_half k c b (omega (arith, ints)) e (omega (arith, ints)))

from_half⁺ : (k : ℕ) (c b : ℤ) → pos 0 ⋖ b → suc k % 2 ≡ 0 → b ⩽ pos 2 *ℤ c → c ⋖ b → r (pos k *ℤ b +ℤ c) b ≡ pos (suc k)
unfolding r
from_half⁺ k c (negsuc b) h e l u = absurd h.lt
from_half⁺ k (negsuc c) (pos b) h e l u = absurd (omega (arith, ints, mul_parts (pos 2) (negsuc c)))
from_half⁺ k (pos c) (pos b) h e l u = ap pos (from_half k c b e (omega (arith, ints)) (omega (arith, ints)))

-- and of even numbers from 0 up, on either side
even⁺ : (k : ℕ) (c b : ℤ) → pos 0 ⋖ b → k % 2 ≡ 0 → neg_ℤ b ⩽ pos 2 *ℤ c → pos 2 *ℤ c ⩽ b → r (pos k *ℤ b +ℤ c) b ≡ pos k
even⁺ k c b h e l u = go k e (<ℤ_or-≥ c (pos 0))
  where
    go : (k : ℕ) → k % 2 ≡ 0 → (c ⋖ pos 0) ⊎ (pos 0 ⩽ c) → r (pos k *ℤ b +ℤ c) b ≡ pos k
    go k e (inr g) = up_to_half⁺ k c b h e g u
    go zero e (inl g) =
        r_mirror (pos 0) c b h
        ∙ ap neg_ℤ (up_to_half⁺ 0 (neg_ℤ c) b h e (nlin (c ∷ []) g (search nstmt depth 20) (omega arith)) (nlin (c ∷ b ∷ []) l (search nstmt depth 20) (omega arith)))
    go (suc k) e (inl g) =
        let s : pos (suc k) ≡ pos k +ℤ pos 1 = ap pos (omega arith) in
        let next : (pos k +ℤ pos 1) *ℤ b +ℤ c ≡ pos k *ℤ b +ℤ (b +ℤ c) = ring (pos k ∷ c ∷ b ∷ []) (search form depth 20) tt in
        ap (λ (z : ℤ). r (z *ℤ b +ℤ c) b) s ∙ ap (λ (z : ℤ). r z b) next
        ∙ from_half⁺ k (b +ℤ c) b h e (nlin (c ∷ b ∷ []) l (search nstmt depth 20) (omega arith)) (nlin (c ∷ b ∷ []) g (search nstmt depth 20) (omega arith))

-- an even number is the rounding of what is at most half of b away from it, the halves included
pub r_even : (k c b : ℤ) → pos 0 ⋖ b → nat_abs k % 2 ≡ 0 → neg_ℤ b ⩽ pos 2 *ℤ c → pos 2 *ℤ c ⩽ b → r (k *ℤ b +ℤ c) b ≡ k
r_even (pos k) c b h e l u = even⁺ k c b h e l u
r_even (negsuc k) c b h e l u =
    r_mirror (negsuc k) c b h
    ∙ ap neg_ℤ (even⁺ (suc k) (neg_ℤ c) b h e (nlin (c ∷ b ∷ []) u (search nstmt depth 20) (omega arith)) (nlin (c ∷ b ∷ []) l (search nstmt depth 20) (omega arith)))
