-- `scaling::lowest_digit` meets its contract: the remainders of two numbers, of either sign, and
-- of their product. Assumes nothing.
use Rattle.std.proofs.Common.{◌≡◌, refl, ap, ap₂, ◌∙◌, ℕ, suc, ◌+◌, ◌*◌, ◌/◌, ◌%◌, ◌≤◌, ◌<◌, mul-le-mul, arith, ℤ, pos, negsuc, nat_abs, ◌*ℤ◌, w64, SFits, to_z-of_z}
use lib.Signed.{rem_z}
use Rattle.integers.specs.Order.{nat_abs-neg_ℤ, nat_abs-*ℤ}
use Rattle.rounding.specs.Words.{fits_abs}
use Rattle.scaling.proofs.lowest_digit.Goals as goal
use Rattle.scaling.proofs.lowest_digit.Goals.{Start}

abbrev base : ℕ
base = 1000000000

abs_rem : (z : ℤ) → nat_abs (rem_z z (pos base)) ≡ nat_abs z % base
abs_rem (pos n) = refl
abs_rem (negsuc n) = nat_abs-neg_ℤ (pos (suc n % base))

least : (a x : ℕ) → a % base * (x % base) < 1000000000000000000
least a x = let h : a % base ≤ 999999999 = omega arith in let k : x % base ≤ 999999999 = omega arith in omega (arith, mul-le-mul h k)

expand : (a1 a0 x1 x0 : ℕ) → a0 * x0 % base ≡ (a1 * base + a0) * (x1 * base + x0) % base
expand a1 a0 x1 x0 = omega arith

lowest : (a x : ℕ) → a % base * (x % base) % base ≡ a * x % base
lowest a x =
    let d : a / base * base + a % base ≡ a = omega arith in
    let e : x / base * base + x % base ≡ x = omega arith in
    expand (a / base) (a % base) (x / base) (x % base) ∙ ap₂ (λ (m n : ℕ). m * n % base) d e

module _ (c : Start) where
  v_rem : SFits w64 (rem_z c.args.v (pos base))
  v_rem = fits_abs (omega (arith, abs_rem c.args.v))

  x_rem : SFits w64 (rem_z c.args.x (pos base))
  x_rem = fits_abs (omega (arith, abs_rem c.args.x))

  abs_is : nat_abs (rem_z c.args.v (pos base) *ℤ rem_z c.args.x (pos base)) ≡ nat_abs c.args.v % base * (nat_abs c.args.x % base)
  abs_is = nat_abs-*ℤ (rem_z c.args.v (pos base)) (rem_z c.args.x (pos base)) ∙ ap₂ ◌*◌ (abs_rem c.args.v) (abs_rem c.args.x)

  product_fits : SFits w64 (rem_z c.args.v (pos base) *ℤ rem_z c.args.x (pos base))
  product_fits = fits_abs (omega (arith, abs_is, least (nat_abs c.args.v) (nat_abs c.args.x)))

pub returns : goal.returns
returns c =
    let s = c.before in
    let e = rw (to_z-of_z s.ranges.v, to_z-of_z s.ranges.x, to_z-of_z (v_rem s), to_z-of_z (x_rem s), to_z-of_z (product_fits s)) at c.magnitude.ensures in
    ap (λ (n : ℕ). n % base) (e ∙ abs_is s) ∙ lowest (nat_abs s.args.v) (nat_abs s.args.x)

pub overflow_mul-v : goal.overflow_mul-v
overflow_mul-v c = rw (to_z-of_z c.ranges.v, to_z-of_z c.ranges.x, to_z-of_z (v_rem c), to_z-of_z (x_rem c)) (product_fits c)
