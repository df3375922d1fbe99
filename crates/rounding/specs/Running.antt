-- A sum in a signed word, to which a loop adds one number after the other. Assumes nothing.
use Rattle.std.specs.Prelude.{◌≡◌, ℕ, ◌+◌, ◌^◌, ◌≤◌, ◌<◌, ℤ, nat_abs, ◌+ℤ◌}
use Rattle.std.proofs.Common.{sym, ◌∙◌, ap, ap₂, mul-le-mul_right, add-one, arith, SFits, to_z, of_z, to_z-of_z}
use Rattle.std.specs.Int.{w64}
use Rattle.integers.specs.Sums.{sum, sum_zero, sum_suc, sum_nat_abs}
use Rattle.rounding.specs.Words.{fits_abs}

pub sum_none : (f : ℕ → ℤ) → 0 ≡ of_z w64 (sum 0 f)
sum_none f = ap (of_z w64) (sym (sum_zero f))

-- at most 20 numbers up to 10^10
pub sum_fits : (n : ℕ) (f : ℕ → ℤ) → n ≤ 20 → ((k : ℕ) → k < n → nat_abs (f k) ≤ 10 ^ 10) → SFits w64 (sum n f)
sum_fits n f h l = fits_abs (omega (arith, mul-le-mul_right (10 ^ 10) h, sum_nat_abs n (10 ^ 10) f l))

-- the number that a word holds
pub held : {w : ℕ} {z : ℤ} → w ≡ of_z w64 z → SFits w64 z → to_z w64 w ≡ z
held e h = ap (to_z w64) e ∙ to_z-of_z h

pub sum_more : (i : ℕ) (f : ℕ → ℤ) {w : ℕ} {x : ℤ} → w ≡ of_z w64 (sum i f) → SFits w64 (sum i f) → x ≡ f i → to_z w64 w +ℤ x ≡ sum (i + 1) f
sum_more i f e h q = ap₂ (λ (a b : ℤ). a +ℤ b) (held e h) q ∙ sym (ap (λ (n : ℕ). sum n f) (add-one i) ∙ sum_suc i f)

-- the same of the number itself
pub sum_add : (i : ℕ) (f : ℕ → ℤ) {a x : ℤ} → a ≡ sum i f → x ≡ f i → a +ℤ x ≡ sum (i + 1) f
sum_add i f e q = ap₂ (λ (a b : ℤ). a +ℤ b) e q ∙ sym (ap (λ (n : ℕ). sum n f) (add-one i) ∙ sum_suc i f)
