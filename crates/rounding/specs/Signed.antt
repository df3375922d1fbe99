-- A number by its sign and its magnitude.
-- Assumes nothing.
use Rattle.std.specs.Prelude.{◌≡◌, refl, Bool, true, false, not, ℕ, ◌*◌, ℤ, pos, negsuc, neg_ℤ, nat_abs, ◌*ℤ◌}
use Rattle.std.specs.Bool.{beq}
use Rattle.std.proofs.Common.{zero-le, le-ltb}
use Rattle.std.specs.Int.Signed.{lt_z}
use Rattle.integers.specs.Parts.{◌⋖◌}
use Rattle.model.specs.Rounding.{r}
use Rattle.rounding.specs.RoundingLaws.{r_neg}

-- −z where the first says so
abbrev pub turned : Bool → ℤ → ℤ
turned true z = neg_ℤ z
turned false z = z

abbrev pub signed : Bool → ℕ → ℤ
signed t n = turned t (pos n)

-- the sign goes through the rounding
pub r_turned : (t : Bool) (a b : ℤ) → pos 0 ⋖ b → r (turned t a) b ≡ turned t (r a b)
r_turned true a b h = r_neg a b h
r_turned false a b h = refl

-- a product's sign is by whether its factors' signs differ
pub signed-* : (a x : ℤ) → signed (not (beq (lt_z a (pos 0)) (lt_z x (pos 0)))) (nat_abs a * nat_abs x) ≡ a *ℤ x
signed-* (pos a) (pos x) = rw (le-ltb a 0 zero-le, le-ltb x 0 zero-le)
signed-* (pos a) (negsuc x) = rw (le-ltb a 0 zero-le)
signed-* (negsuc a) (pos x) = rw (le-ltb x 0 zero-le)
signed-* (negsuc a) (negsuc x) = refl
