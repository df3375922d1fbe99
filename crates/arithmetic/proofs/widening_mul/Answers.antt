-- `arithmetic::widening_mul` meets its contract: a times each digit of x, and the carries. Assumes
-- nothing.
use Rattle.std.proofs.Common.{◌≡◌, ap, ℕ, ◌+◌, ◌*◌, ◌/◌, ◌%◌, arith}
use Rattle.arithmetic.proofs.widening_mul.Goals as goal
use Rattle.arithmetic.proofs.widening_mul.Goals.{Start}

-- a times all of them
all : (a x : ℕ) → a * x ≡ (a * (x / 65536 / 65536) * 65536 + a * (x / 65536 % 65536)) * 65536 + a * (x % 65536)
all a x =
    let e : x ≡ (x / 65536 / 65536 * 65536 + x / 65536 % 65536) * 65536 + x % 65536 = omega arith in
    omega (arith, ap (λ (n : ℕ). a * n) e)

pub returns : goal.returns
returns c = (omega (arith, all c.args.a c.args.x), omega arith, omega arith)
