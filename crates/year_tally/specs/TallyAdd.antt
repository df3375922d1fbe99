-- 01, Calendar years: a tally with one cell added. What else there is of a tally stands in `model`,
-- in Calendar.
use Rattle.std.specs.Prelude.{ℕ, ◌-◌, ◌^◌, Bool, ◌&&◌, cond, ltb, leb, ℤ, pos, negsuc, ◌+ℤ◌, get_or, set}
use Rattle.year_tally.specs.declared.Tally.{Tally}

-- z is a signed 64-bit number: -2^63 to 2^63 - 1 (negsuc n is -(n + 1))
unfoldable pub fits64 : ℤ → Bool
fits64 (pos n) = ltb n (2 ^ 63)
fits64 (negsuc n) = ltb n (2 ^ 63)

-- the tally with a cell, RBNS x and IBNR y, added to its year: as it was for a year outside 1 to
-- 38, or where either sum leaves 64 bits
unfoldable pub tally_add : Tally → ℕ → ℤ → ℤ → Tally
tally_add t year x y =
    let a = get_or t.rbns (year - 1) (pos 0) +ℤ x in
    let b = get_or t.ibnr (year - 1) (pos 0) +ℤ y in
    cond (leb 1 year && leb year 38 && fits64 a && fits64 b) (record { rbns = set t.rbns (year - 1) a; ibnr = set t.ibnr (year - 1) b }) t
