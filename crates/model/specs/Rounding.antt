-- 01, Rounding, with the halves of 02, Job 4: each definition here is of these. Only this file, its
-- laws and the code that rounds know how r is made.
use Rattle.std.specs.Prelude.{ℕ, suc, ◌+◌, ◌*◌, ◌/◌, ◌%◌, ◌^◌, cond, ltb, ℤ, pos, negsuc, neg_ℤ, nat_abs, ◌-ℤ◌, ◌*ℤ◌}
use Rattle.integers.specs.Parts.{◌⩽◌, ◌⋖◌}
use Rattle.integers.specs.Absolute.{∣◌∣}

-- the whole of which shares are parts
unfoldable pub S : ℤ
S = pos (10 ^ 9)

-- the even one of k and the next number
unfoldable pub even_of : ℕ → ℕ
even_of k = k + k % 2

-- the number nearest to a / b, of numbers from 0 up: the quotient where the remainder is below half
-- of b, the next number where it is above, and at half the even one of the two
unfoldable pub nearest : ℕ → ℕ → ℕ
nearest a b = cond (ltb (2 * (a % b)) b) (a / b) (cond (ltb b (2 * (a % b))) (suc (a / b)) (even_of (a / b)))

-- r(a/b): below 0 the mirror, so that a half goes to the even neighbour there too. b is above 0
-- wherever r is asked for
unfoldable pub r : ℤ → ℤ → ℤ
r (pos a) b = pos (nearest a (nat_abs b))
r (negsuc a) b = neg_ℤ (pos (nearest (suc a) (nat_abs b)))

-- what the promises use of a rounding: it is within one half of a / b
pub record WithinHalf (r : ℤ → ℤ → ℤ) : Type 0 where
  pub near : (a b : ℤ) → pos 0 ⋖ b → pos 2 *ℤ ∣ b *ℤ r a b -ℤ a ∣ ⩽ b
