-- The text of an amount by its sign. Assumes nothing.
use mathlib.Core.Path.{◌≡◌, sym, ap, subst}
use mathlib.Core.Bool.{true, false}
use mathlib.Core.List.{◌∷◌}
use Prim.Native.Nat.{ℕ}
use native.Mathlib.Nat.{not-suc-le-zero}
use lib.Dec.{T}
use lib.IntN.{ℤ, pos, negsuc, nat_abs}
use lib.Signed.{lt_z}
use mir.Syntax.{w64}
use mir.Val.{SFits, to_z, of_z}
use mir.Facts.{to_z-of_z}
use borrow.Author.Tests.{ltb-true}
use Rattle.model.specs.Calendar.{digits, amount}

-- z as a local holds it
abbrev pub held : ℤ → ℤ
held z = to_z w64 (of_z w64 z)

-- the text of an amount with the magnitude n
pub amount_below : (z : ℤ) (n : ℕ) → SFits w64 z → lt_z (held z) (pos 0) ≡ true → n ≡ nat_abs (held z) → amount z ≡ 45 ∷ digits n
unfolding amount
amount_below (pos k) n h t e = absurd (not-suc-le-zero (ltb-true k 0 (rw (to_z-of_z h) at t)))
amount_below (negsuc k) n h t e = ap (λ (i : ℕ). 45 ∷ digits i) (sym (rw (to_z-of_z h) at e))

pub amount_not_below : (z : ℤ) (n : ℕ) → SFits w64 z → lt_z (held z) (pos 0) ≡ false → n ≡ nat_abs (held z) → amount z ≡ digits n
unfolding amount
amount_not_below (pos k) n h t e = ap digits (sym (rw (to_z-of_z h) at e))
amount_not_below (negsuc k) n h t e = absurd (subst T (rw (to_z-of_z h) at t) tt)
