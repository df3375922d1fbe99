-- Laws of signed words: when an integer fits a word, and what is read back. Assumes nothing.
use Rattle.std.specs.Prelude.{◌≡◌, ◌^◌, ◌<◌, ℤ, pos, negsuc, nat_abs}
use Rattle.std.proofs.Common.{sym, ap, ◌∙◌, arith, SFits, to_z, of_z, to_z-of_z}
use Rattle.std.specs.Int.{w64}

pub fits_abs : {z : ℤ} → nat_abs z < 2 ^ 63 → SFits w64 z
fits_abs {z = pos n} h = record { sfits = h }
fits_abs {z = negsuc n} h = record { sfits = omega arith }

-- the magnitude of a value that is read back from its bits
pub abs_read : {z : ℤ} → SFits w64 z → nat_abs (to_z w64 (of_z w64 z)) ≡ nat_abs z
abs_read f = ap nat_abs (to_z-of_z f)

-- numbers with equal bits
pub equal_words : {a b : ℤ} → SFits w64 a → SFits w64 b → of_z w64 a ≡ of_z w64 b → a ≡ b
equal_words f g e = sym (to_z-of_z f) ∙ ap (to_z w64) e ∙ to_z-of_z g
