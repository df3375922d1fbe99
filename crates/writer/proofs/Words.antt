-- A signed number as std writes its bytes: they are those of its `word`. Assumes nothing.
use Rattle.std.specs.Prelude.{ℕ, ◌≡◌, refl, ℤ, pos, negsuc}
use Rattle.std.proofs.Common.{w64, ap, ◌∙◌}
use Rattle.std.proofs.Math.Nat.{div-div-eq-div-mul}
use Rattle.std.specs.Int.{cast_unsigned, to_le_bytes}
use Rattle.model.specs.SetFile.{word, bytes}

word_is : (v : ℤ) → cast_unsigned w64 v ≡ word v
unfolding word
word_is (pos n) = refl
word_is (negsuc n) = refl

bytes_is : (x : ℕ) → to_le_bytes w64 x ≡ bytes 8 x
unfolding bytes
bytes_is x = simp div-div-eq-div-mul

pub word_bytes : (v : ℤ) → to_le_bytes w64 (cast_unsigned w64 v) ≡ bytes 8 (word v)
word_bytes v = bytes_is _ ∙ ap (bytes 8) (word_is v)
