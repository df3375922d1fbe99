-- `scaling::divide_by_square` meets its contract: the product of two numbers of two digits, and
-- how large its parts are. Assumes nothing.
use Rattle.std.proofs.Common.{◌≡◌, ap₂, ◌∙◌, ℕ, ◌+◌, ◌*◌, ◌/◌, ◌%◌, ◌≤◌, mul-le-mul, arith}
use Rattle.scaling.proofs.divide_by_square.Goals as goal
use Rattle.scaling.proofs.divide_by_square.Goals.{Start}

abbrev base : ℕ
base = 1000000000

abbrev low : ℕ → ℕ → ℕ
low v x = v % base * (x % base)

abbrev mid : ℕ → ℕ → ℕ
mid v x = v / base * (x % base) + v % base * (x / base) + low v x / base

abbrev quot : ℕ → ℕ → ℕ
quot v x = v / base * (x / base) + mid v x / base

expand : (v1 v0 x1 x0 : ℕ) → (let l = v0 * x0 in let b = v1 * x0 + v0 * x1 + l / base in ((v1 * x1 + b / base) * base + b % base) * base + l % base ≡ (v1 * base + v0) * (x1 * base + x0))
expand v1 v0 x1 x0 = omega arith

product : (v x : ℕ) → (quot v x * base + mid v x % base) * base + low v x % base ≡ v * x
product v x =
    let d : v / base * base + v % base ≡ v = omega arith in
    let e : x / base * base + x % base ≡ x = omega arith in
    expand (v / base) (v % base) (x / base) (x % base) ∙ ap₂ ◌*◌ d e

cut : (v x : ℕ) → quot v x * base + mid v x % base ≡ v * x / base
cut v x = omega (arith, product v x)

module _ (c : Start) where
  abbrev v : ℕ
  v = c.args.v

  abbrev x : ℕ
  x = c.args.x

  v1 : v / base ≤ 200000
  v1 = omega arith

  v0 : v % base ≤ 999999999
  v0 = omega arith

  x1 : x / base ≤ 9000000000
  x1 = omega arith

  x0 : x % base ≤ 999999999
  x0 = omega arith

  low_most : low v x ≤ 999999999 * 999999999
  low_most = mul-le-mul v0 x0

  cross_most : v / base * (x % base) + v % base * (x / base) ≤ 9 * 1000000000000000000 + 200000000000000
  cross_most = omega (arith, mul-le-mul v1 x0, mul-le-mul v0 x1)

  high_most : v / base * (x / base) ≤ 200000 * 9000000000
  high_most = mul-le-mul v1 x1

pub returns : goal.returns
returns c = (cut (v c) (x c), omega arith, omega (arith, high_most c, cross_most c, low_most c))
