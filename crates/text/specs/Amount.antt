-- Laws of an amount's text: how long it is, alone and at the right of a field, and that it reads
-- back as the amount. Assumes nothing.
use Rattle.std.specs.Prelude.{◌≡◌, refl, true, false, List, [], ◌∷◌, ℕ, suc, ◌+◌, ◌-◌, ◌^◌, ◌≤◌, eqb, ℤ, pos, negsuc, neg_ℤ, length, get_or, replicate}
use Rattle.std.proofs.Common.{ap, ◌∙◌, arith, length-append, ne_eqb, ltb-true}
use Rattle.std.proofs.lemmas.List.{length-replicate}
use Rattle.model.specs.Calendar.{digits, amount, value_from}
use Rattle.model.specs.Page.{aligned}
use Rattle.year_tally.specs.TallyAdd.{fits64}
use Rattle.text.specs.Digits.{value_digits, leads, digits_length}

-- the amount that a text says
unfoldable pub amount_value : List ℕ → ℤ
amount_value [] = pos 0
amount_value (b ∷ s) = elim (eqb b 45) [ true ↦ neg_ℤ (pos (value_from 0 s)) | false ↦ pos (value_from 0 (b ∷ s)) ]

-- a text that starts with a digit says a number that is not negative
unsigned : (s : List ℕ) → 48 ≤ get_or s 0 0 → amount_value s ≡ pos (value_from 0 s)
unfolding amount_value
unsigned [] h = absurd (let z : 48 ≤ 0 = h in omega arith)
unsigned (b ∷ s) h = rw (ne_eqb b 45 (λ e. omega arith), amount_value)

pub amount_back : (z : ℤ) → amount_value (amount z) ≡ z
unfolding amount amount_value
amount_back (pos n) = unsigned (digits n) (leads n).digit ∙ ap pos (value_digits n)
amount_back (negsuc n) = ap (λ (k : ℕ). neg_ℤ (pos k)) (value_digits (suc n))

-- a signed 64-bit number takes at most 20 bytes
pub amount_length : (z : ℤ) → fits64 z ≡ true → length (amount z) ≤ 20
unfolding amount fits64
amount_length (pos n) e = let h = ltb-true n (2 ^ 63) e in omega (arith, digits_length 18 n (omega arith))
amount_length (negsuc n) e = let h = ltb-true n (2 ^ 63) e in omega (arith, digits_length 18 (suc n) (omega arith))

-- ---- at the right of a field

pub aligned_size : (width : ℕ) (s : List ℕ) → length (aligned width s) ≡ width - length s + length s
unfolding aligned
aligned_size width s = length-append (replicate (width - length s) 32) s ∙ rw (length-replicate {A = ℕ} (width - length s) 32) refl

pub aligned_none : (s : List ℕ) → aligned 0 s ≡ s
unfolding aligned
aligned_none s = let e : 0 - length s ≡ 0 = omega arith in rw e
