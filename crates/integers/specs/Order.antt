-- The order of ℤ and the absolute value.
-- Assumes nothing.
use Rattle.std.specs.Prelude.{◌≡◌, refl, ◌⊎◌, ◌↔◌, Bool, true, false, not, [], ◌∷◌, ℕ, zero, suc, ◌+◌, ◌*◌, ◌≤◌, T, ℤ, pos, negsuc, neg_ℤ, nat_abs, ◌+ℤ◌, ◌*ℤ◌, ◌-ℤ◌, ◌≤ℤ◌, ◌<ℤ◌}
use Rattle.std.proofs.Common.{sym, subst, inl, inr, mul-le-mul_right, mul-lt-mul_of_pos_right, le_refl, arith}
use Rattle.std.proofs.Math.Dec.{leb-zero}
use Rattle.std.proofs.Math.IntN.{*ℤ_comm, zero-*ℤ}
use Rattle.std.specs.Int.Signed.{le_z, lt_z, le_z_yes, lt_z_yes, lt_z_no, clash_ℤ}
use Rattle.integers.specs.Parts.{ints, add_parts, diff_parts, mul_parts, le_parts, lt_parts}
use Rattle.integers.specs.Linear.{lin, stmt, ◌&◌}

-- ---- a linear order
pub ≤ℤ_of-≡ : {a b : ℤ} → a ≡ b → a ≤ℤ b
≤ℤ_of-≡ h = omega (arith, ints)

pub ≤ℤ_trans : {a b c : ℤ} → a ≤ℤ b → b ≤ℤ c → a ≤ℤ c
≤ℤ_trans h k = omega (arith, ints)

pub <ℤ-≤ℤ : {a b : ℤ} → a <ℤ b → a ≤ℤ b
<ℤ-≤ℤ h = omega (arith, ints)

pub ≤ℤ_antisym : {a b : ℤ} → a ≤ℤ b → b ≤ℤ a → a ≡ b
≤ℤ_antisym h k = omega (arith, ints)

test : (a b : ℤ) (t : Bool) → (T t → a <ℤ b) → (T (not t) → b ≤ℤ a) → (a <ℤ b) ⊎ (b ≤ℤ a)
test a b true f g = inl (f tt)
test a b false f g = inr (g tt)

pub <ℤ_or-≥ : (a b : ℤ) → (a <ℤ b) ⊎ (b ≤ℤ a)
<ℤ_or-≥ a b = test a b (lt_z a b) lt_z_yes lt_z_no

-- ---- the tests
pub so_true : (t : Bool) → T t → t ≡ true
so_true true h = refl
so_true false h = absurd h

pub le_z_true : {a b : ℤ} → a ≤ℤ b → le_z a b ≡ true
le_z_true {a} {b} h = so_true (le_z a b) h.le

not_so : (t : Bool) → (T t → ⊥) → t ≡ false
not_so true h = absurd (h tt)
not_so false h = refl

pub le_z_false : {a b : ℤ} → b <ℤ a → le_z a b ≡ false
le_z_false {a} {b} h = not_so (le_z a b) (λ t. clash_ℤ h (le_z_yes t))

pub le_yes : {a b : ℤ} → le_z a b ≡ true → a ≤ℤ b
le_yes e = le_z_yes (subst T (sym e) tt)

pub lt_yes : {a b : ℤ} → lt_z a b ≡ true → a <ℤ b
lt_yes e = lt_z_yes (subst T (sym e) tt)

pub lt_no : {a b : ℤ} → lt_z a b ≡ false → b ≤ℤ a
lt_no e = lt_z_no (subst (λ (t : Bool). T (not t)) (sym e) tt)

-- a < b is a + 1 ≤ b
pub <ℤ_suc : {a b : ℤ} → a <ℤ b ↔ (a +ℤ pos 1) ≤ℤ b
<ℤ_suc {a} {b} = (λ (h : a <ℤ b). omega (arith, ints, add_parts a (pos 1)), λ (h : (a +ℤ pos 1) ≤ℤ b). omega (arith, ints, add_parts a (pos 1)))

-- ---- sums
pub +ℤ_mono : {a b c d : ℤ} → a ≤ℤ b → c ≤ℤ d → (a +ℤ c) ≤ℤ (b +ℤ d)
+ℤ_mono {a} {b} {c} {d} h k = omega (arith, ints, add_parts a c, add_parts b d)

pub sub_nonneg : {a b : ℤ} → a ≤ℤ b ↔ pos 0 ≤ℤ (b -ℤ a)
sub_nonneg {a} {b} = (λ (h : a ≤ℤ b). omega (arith, ints, diff_parts b a), λ (h : pos 0 ≤ℤ (b -ℤ a)). omega (arith, ints, diff_parts b a))

-- ---- naturals and signs
pub pos_mono : {m n : ℕ} → m ≤ n ↔ pos m ≤ℤ pos n
pos_mono {m} {n} = (λ (h : m ≤ n). omega (arith, ints), λ (h : pos m ≤ℤ pos n). omega (arith, ints))

pub nonneg : (n : ℕ) → pos 0 ≤ℤ pos n
nonneg n = le_z_yes (subst T (sym (leb-zero n)) tt)

pub nonneg_pos : {x : ℤ} → pos 0 ≤ℤ x → x ≡ pos (nat_abs x)
nonneg_pos {x = pos n} h = refl
nonneg_pos {x = negsuc n} h = absurd h.le

pub *ℤ_mono_r : {a b : ℤ} (c : ℤ) → pos 0 ≤ℤ c → a ≤ℤ b → (a *ℤ c) ≤ℤ (b *ℤ c)
*ℤ_mono_r {a} {b} (pos n) p h = omega (arith, ints, mul_parts a (pos n), mul_parts b (pos n), mul-le-mul_right n (le_parts h))
*ℤ_mono_r {a} {b} (negsuc n) p h = absurd p.le

pub *ℤ_mono_l : {a b : ℤ} (c : ℤ) → pos 0 ≤ℤ c → a ≤ℤ b → (c *ℤ a) ≤ℤ (c *ℤ b)
*ℤ_mono_l {a} {b} c p h = rw (*ℤ_comm c a, *ℤ_comm c b) (*ℤ_mono_r c p h)

pub *ℤ_nonneg : {a b : ℤ} → pos 0 ≤ℤ a → pos 0 ≤ℤ b → pos 0 ≤ℤ (a *ℤ b)
*ℤ_nonneg {a = pos m} {b = pos n} p q = nonneg (m * n)
*ℤ_nonneg {a = pos m} {b = negsuc n} p q = absurd q.le
*ℤ_nonneg {a = negsuc m} {b = b} p q = absurd p.le

pub *ℤ_mono-< : {a b : ℤ} (c : ℤ) → pos 0 <ℤ c → a <ℤ b → (a *ℤ c) <ℤ (b *ℤ c)
*ℤ_mono-< {a} {b} (pos n) p h = omega (arith, ints, mul_parts a (pos n), mul_parts b (pos n), mul-lt-mul_of_pos_right {k = n} (lt_parts h) (omega (arith, ints)))
*ℤ_mono-< {a} {b} (negsuc n) p h = absurd p.lt

pub *ℤ_pos : {a b : ℤ} → pos 0 <ℤ a → pos 0 <ℤ b → pos 0 <ℤ (a *ℤ b)
*ℤ_pos {a} {b} h k = rw (zero-*ℤ b) at (*ℤ_mono-< b k h)

-- a positive factor is struck out
pub *ℤ_cancel-≤ : {a b : ℤ} (c : ℤ) → pos 0 <ℤ c → (a *ℤ c) ≤ℤ (b *ℤ c) → a ≤ℤ b
*ℤ_cancel-≤ {a} {b} c p h = go (<ℤ_or-≥ b a)
  where
    go : (b <ℤ a) ⊎ (a ≤ℤ b) → a ≤ℤ b
    go (inl k) = clash_ℤ (*ℤ_mono-< c p k) h
    go (inr k) = k

-- y - x = r - l
pub ≤_by : {l r x y : ℤ} → l ≤ℤ r → x +ℤ r ≡ y +ℤ l → x ≤ℤ y
≤_by {l} {r} {x} {y} h e = omega (arith, ints, add_parts x r, add_parts y l)

-- ---- the absolute value
pub nat_abs-neg_ℤ : (x : ℤ) → nat_abs (neg_ℤ x) ≡ nat_abs x
nat_abs-neg_ℤ (pos zero) = refl
nat_abs-neg_ℤ (pos (suc n)) = refl
nat_abs-neg_ℤ (negsuc n) = refl

pub nat_abs-*ℤ : (x y : ℤ) → nat_abs (x *ℤ y) ≡ nat_abs x * nat_abs y
nat_abs-*ℤ (pos a) (pos b) = refl
nat_abs-*ℤ (pos a) (negsuc b) = nat_abs-neg_ℤ (pos (a * suc b))
nat_abs-*ℤ (negsuc a) (pos b) = nat_abs-neg_ℤ (pos (suc a * b))
nat_abs-*ℤ (negsuc a) (negsuc b) = refl

pub nat_abs-+ℤ : (x y : ℤ) → nat_abs (x +ℤ y) ≤ nat_abs x + nat_abs y
nat_abs-+ℤ x y = lin (x ∷ y ∷ []) (le_refl (nat_abs x) & le_refl (nat_abs y)) (search stmt) (omega arith)

-- of two numbers that are not negative
pub nat_abs_plus : {x y : ℤ} → pos 0 ≤ℤ x → pos 0 ≤ℤ y → nat_abs (x +ℤ y) ≡ nat_abs x + nat_abs y
nat_abs_plus {x = pos m} {y = pos n} p q = refl
nat_abs_plus {x = pos m} {y = negsuc n} p q = absurd q.le
nat_abs_plus {x = negsuc m} {y = y} p q = absurd p.le

pub nat_abs--ℤ : (x y : ℤ) → nat_abs (x -ℤ y) ≤ nat_abs x + nat_abs y
nat_abs--ℤ x y = lin (x ∷ y ∷ []) (le_refl (nat_abs x) & le_refl (nat_abs y)) (search stmt) (omega arith)

pub nat_abs-≤ : {x : ℤ} {n : ℕ} → nat_abs x ≤ n ↔ (x ≤ℤ pos n) × (neg_ℤ (pos n) ≤ℤ x)
nat_abs-≤ {x} {n} = (
  λ (h : nat_abs x ≤ n). (lin (x ∷ []) h (search stmt) (omega arith), lin (x ∷ []) h (search stmt) (omega arith)),
  λ (h : (x ≤ℤ pos n) × (neg_ℤ (pos n) ≤ℤ x)). lin (x ∷ []) (h.0 & h.1) (search stmt) (omega arith),
)

pub nat_abs_mono : {x y : ℤ} → pos 0 ≤ℤ x → x ≤ℤ y → nat_abs x ≤ nat_abs y
nat_abs_mono {x} {y} p h = lin (x ∷ y ∷ []) (p & h & le_refl (nat_abs y)) (search stmt) (omega arith)
