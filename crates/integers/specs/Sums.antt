-- Finite sums of integers: `sum n f` is f 0 + .. + f (n - 1).
-- Assumes nothing.
use Rattle.std.specs.Prelude.{◌≡◌, refl, [], ◌∷◌, ℕ, zero, suc, ◌+◌, ◌-◌, ◌*◌, ◌≤◌, ◌<◌, ℤ, pos, neg_ℤ, nat_abs, ◌+ℤ◌, ◌*ℤ◌, ◌-ℤ◌, ◌≤ℤ◌}
use Rattle.std.proofs.Common.{sym, ◌∙◌, ap, ap₂, add-zero, add-suc, mul-add, mul_comm, mul-le-mul_left, arith}
use Rattle.std.proofs.Math.IntN.{*ℤ-zero, zero-*ℤ, +ℤ_idl, +ℤ_idr, +ℤ_comm, neg_ℤ-+ℤ}
use Rattle.std.specs.Int.Signed.{≤ℤ_refl}
use Rattle.integers.specs.Ring.{*ℤ-+ℤ, +ℤ-*ℤ}
use Rattle.integers.specs.Solver.{ring, form}
use Rattle.integers.specs.Linear.{lin₀, stmt}
use Rattle.integers.specs.Order.{+ℤ_mono, ≤_by, nat_abs-+ℤ, nat_abs-*ℤ, nat_abs_plus}

unfoldable pub sum : ℕ → (ℕ → ℤ) → ℤ
sum zero f = pos 0
sum (suc n) f = sum n f +ℤ f n

pub sum_zero : (f : ℕ → ℤ) → sum 0 f ≡ pos 0
unfolding sum
sum_zero f = refl

pub sum_suc : (n : ℕ) (f : ℕ → ℤ) → sum (suc n) f ≡ sum n f +ℤ f n
unfolding sum
sum_suc n f = refl

pub sum_one : (f : ℕ → ℤ) → sum 1 f ≡ f 0
unfolding sum
sum_one f = +ℤ_idl (f 0)

pub sum_cong : (n : ℕ) {f g : ℕ → ℤ} → ((k : ℕ) → k < n → f k ≡ g k) → sum n f ≡ sum n g
unfolding sum
sum_cong zero h = refl
sum_cong (suc n) h = ap₂ (λ (x y : ℤ). x +ℤ y) (sum_cong n (λ k l. h k (omega arith))) (h n (omega arith))

pub sum-+ℤ : (n : ℕ) (f g : ℕ → ℤ) → sum n (λ k. f k +ℤ g k) ≡ sum n f +ℤ sum n g
unfolding sum
sum-+ℤ zero f g = refl
sum-+ℤ (suc n) f g = rw (sum-+ℤ n f g) (ring (sum n f ∷ sum n g ∷ f n ∷ g n ∷ []) (search form) tt)

pub sum-neg_ℤ : (n : ℕ) (f : ℕ → ℤ) → sum n (λ k. neg_ℤ (f k)) ≡ neg_ℤ (sum n f)
unfolding sum
sum-neg_ℤ zero f = refl
sum-neg_ℤ (suc n) f = rw (sum-neg_ℤ n f) (sym (neg_ℤ-+ℤ (sum n f) (f n)))

pub sum--ℤ : (n : ℕ) (f g : ℕ → ℤ) → sum n (λ k. f k -ℤ g k) ≡ sum n f -ℤ sum n g
sum--ℤ n f g = sum-+ℤ n f (λ k. neg_ℤ (g k)) ∙ ap (λ (x : ℤ). sum n f +ℤ x) (sum-neg_ℤ n g)

pub sum-*ℤ_l : (n : ℕ) (c : ℤ) (f : ℕ → ℤ) → sum n (λ k. c *ℤ f k) ≡ c *ℤ sum n f
unfolding sum
sum-*ℤ_l zero c f = sym (*ℤ-zero c)
sum-*ℤ_l (suc n) c f = rw (sum-*ℤ_l n c f) (sym (*ℤ-+ℤ c (sum n f) (f n)))

pub sum-*ℤ_r : (n : ℕ) (f : ℕ → ℤ) (c : ℤ) → sum n (λ k. f k *ℤ c) ≡ sum n f *ℤ c
unfolding sum
sum-*ℤ_r zero f c = sym (zero-*ℤ c)
sum-*ℤ_r (suc n) f c = rw (sum-*ℤ_r n f c) (sym (+ℤ-*ℤ (sum n f) (f n) c))

pub sum_const : (n : ℕ) (c : ℤ) → sum n (λ k. c) ≡ pos n *ℤ c
unfolding sum
sum_const zero c = sym (zero-*ℤ c)
sum_const (suc n) c = rw (sum_const n c) (lin₀ (c ∷ []) (search stmt) (omega arith))

pub sum_nothing : (n : ℕ) {f : ℕ → ℤ} → ((k : ℕ) → k < n → f k ≡ pos 0) → sum n f ≡ pos 0
unfolding sum
sum_nothing zero h = refl
sum_nothing (suc n) h = ap₂ (λ (x y : ℤ). x +ℤ y) (sum_nothing n (λ k l. h k (omega arith))) (h n (omega arith))

-- at a point
pub sum_split : (n m : ℕ) (f : ℕ → ℤ) → sum (n + m) f ≡ sum n f +ℤ sum m (λ k. f (n + k))
unfolding sum
sum_split n zero f = ap (λ (i : ℕ). sum i f) (add-zero n) ∙ sym (+ℤ_idr (sum n f))
sum_split n (suc m) f =
    ap (λ (i : ℕ). sum i f) (add-suc n m) ∙ ap (λ (x : ℤ). x +ℤ f (n + m)) (sum_split n m f)
    ∙ ring (sum n f ∷ sum m (λ k. f (n + k)) ∷ f (n + m) ∷ []) (search form) tt

pub sum_first : (n : ℕ) (f : ℕ → ℤ) → sum (suc n) f ≡ f 0 +ℤ sum n (λ k. f (suc k))
unfolding sum
sum_first zero f = +ℤ_comm (pos 0) (f 0)
sum_first (suc n) f =
    ap (λ (x : ℤ). x +ℤ f (suc n)) (sum_first n f)
    ∙ ring (f 0 ∷ sum n (λ k. f (suc k)) ∷ f (suc n) ∷ []) (search form) tt

pub sum_telescope : (n : ℕ) (f : ℕ → ℤ) → sum n (λ k. f (suc k) -ℤ f k) ≡ f n -ℤ f 0
unfolding sum
sum_telescope zero f = ring (f 0 ∷ []) (search form) tt
sum_telescope (suc n) f = rw (sum_telescope n f) (ring (f n ∷ f (suc n) ∷ f 0 ∷ []) (search form) tt)

-- ---- bounds
pub sum_nat_abs : (n c : ℕ) (f : ℕ → ℤ) → ((k : ℕ) → k < n → nat_abs (f k) ≤ c) → nat_abs (sum n f) ≤ n * c
unfolding sum
sum_nat_abs zero c f h = omega arith
sum_nat_abs (suc n) c f h =
    omega (arith, nat_abs-+ℤ (sum n f) (f n), sum_nat_abs n c f (λ k l. h k (omega arith)), h n (omega arith))

pub sum_mono : (n : ℕ) (f g : ℕ → ℤ) → ((k : ℕ) → k < n → f k ≤ℤ g k) → sum n f ≤ℤ sum n g
unfolding sum
sum_mono zero f g h = ≤ℤ_refl (pos 0)
sum_mono (suc n) f g h = +ℤ_mono (sum_mono n f g (λ k l. h k (omega arith))) (h n (omega arith))

pub sum_nonneg : (n : ℕ) (f : ℕ → ℤ) → ((k : ℕ) → k < n → pos 0 ≤ℤ f k) → pos 0 ≤ℤ sum n f
unfolding sum
sum_nonneg zero f h = ≤ℤ_refl (pos 0)
sum_nonneg (suc n) f h = +ℤ_mono (sum_nonneg n f (λ k l. h k (omega arith))) (h n (omega arith))

-- of weights that are not negative, the first of them
pub sum_part : (n m : ℕ) (f : ℕ → ℤ) → n ≤ m → ((k : ℕ) → k < m → pos 0 ≤ℤ f k) → sum n f ≤ℤ sum m f
sum_part n m f l h =
    let e : m ≡ n + (m - n) = omega arith in
    ≤_by (sum_nonneg (m - n) (λ k. f (n + k)) (λ k u. h (n + k) (omega arith)))
    (sym (ap (λ (i : ℕ). sum i f) e ∙ sum_split n (m - n) f) ∙ sym (+ℤ_idr (sum m f)))

-- where the terms from e on are 0
pub sum_ends : (e n : ℕ) (f : ℕ → ℤ) → e ≤ n → ((k : ℕ) → e ≤ k → k < n → f k ≡ pos 0) → sum n f ≡ sum e f
sum_ends e n f h z =
    let d : n ≡ e + (n - e) = omega arith in
    ap (λ (i : ℕ). sum i f) d ∙ sum_split e (n - e) f
    ∙ ap (λ (x : ℤ). sum e f +ℤ x) (sum_nothing (n - e) (λ k l. z (e + k) (omega arith) (omega arith))) ∙ +ℤ_idr (sum e f)

-- terms that are at most c times those of w, which are not negative
pub sum_dominated : (n c : ℕ) (f w : ℕ → ℤ) → ((k : ℕ) → k < n → pos 0 ≤ℤ w k) → ((k : ℕ) → k < n → nat_abs (f k) ≤ c * nat_abs (w k))
    → nat_abs (sum n f) ≤ c * nat_abs (sum n w)
unfolding sum
sum_dominated zero c f w p h = omega arith
sum_dominated (suc n) c f w p h =
    rw (nat_abs_plus (sum_nonneg n w (λ k l. p k (omega arith))) (p n (omega arith)), mul-add c (nat_abs (sum n w)) (nat_abs (w n)))
    (omega (arith, nat_abs-+ℤ (sum n f) (f n), sum_dominated n c f w (λ k l. p k (omega arith)) (λ k l. h k (omega arith)), h n (omega arith)))

-- a weighted sum is no larger than its weights' sum times the largest number
pub sum_weighted : (n c : ℕ) (f h : ℕ → ℤ) → ((k : ℕ) → k < n → pos 0 ≤ℤ f k) → ((k : ℕ) → k < n → nat_abs (h k) ≤ c)
    → nat_abs (sum n (λ k. f k *ℤ h k)) ≤ c * nat_abs (sum n f)
sum_weighted n c f h p q =
    sum_dominated n c (λ k. f k *ℤ h k) f p (λ k l. rw (nat_abs-*ℤ (f k) (h k), mul_comm c (nat_abs (f k))) (mul-le-mul_left (nat_abs (f k)) (q k l)))

-- ---- double sums
pub sum_swap : (n m : ℕ) (f : ℕ → ℕ → ℤ) → sum n (λ i. sum m (λ j. f i j)) ≡ sum m (λ j. sum n (λ i. f i j))
unfolding sum
sum_swap zero m f = sym (sum_nothing m (λ k l. refl))
sum_swap (suc n) m f =
    ap (λ (x : ℤ). x +ℤ sum m (λ j. f n j)) (sum_swap n m f)
    ∙ sym (sum-+ℤ m (λ j. sum n (λ i. f i j)) (λ j. f n j))

-- ---- convolutions: `conv b p j` is Σ_{k≤j} b k * p (j - k)
unfoldable pub conv : (ℕ → ℤ) → (ℕ → ℤ) → ℕ → ℤ
conv b p j = sum (suc j) (λ k. b k *ℤ p (j - k))
