-- Examples of the tally at the ends of its years and of 64 bits. Assumes nothing.
use Rattle.std.specs.Prelude.{◌-◌, ◌^◌, ◌≡◌, refl, [], ◌∷◌, ◌++◌, ℤ, pos, negsuc, replicate}
use Rattle.year_tally.specs.TallyAdd.{tally_add}
use Rattle.model.specs.Further.{less, opened_further}
use Rattle.year_tally.specs.declared.Tally.{Tally}

-- the highest and the lowest signed 64-bit number
abbrev highest : ℤ
highest = pos (2 ^ 63 - 1)

abbrev lowest : ℤ
lowest = negsuc (2 ^ 63 - 1)

-- x and y in calendar year 1
abbrev tally : ℤ → ℤ → Tally
tally x y = record { rbns = x ∷ replicate 37 (pos 0); ibnr = y ∷ replicate 37 (pos 0) }

-- the same tally: both sums too high, only RBNS, only IBNR; and too low
pub overflow :
    (tally_add (tally highest highest) 1 (pos 1) (pos 1) ≡ tally highest highest)
    × (tally_add (tally highest (pos 5)) 1 (pos 1) (pos 1) ≡ tally highest (pos 5))
    × (tally_add (tally (pos 5) highest) 1 (pos 1) (pos 1) ≡ tally (pos 5) highest)
    × (tally_add (tally lowest (pos 5)) 1 (less 1) (pos 1) ≡ tally lowest (pos 5))
    × (tally_add (tally (pos 5) lowest) 1 (pos 1) (less 1) ≡ tally (pos 5) lowest)
unfolding opened_further
overflow = (refl, refl, refl, refl, refl)

-- sums that just fit
pub no_overflow : tally_add (tally (pos (2 ^ 63 - 2)) (negsuc (2 ^ 63 - 2))) 1 (pos 1) (less 1) ≡ tally highest lowest
unfolding opened_further
no_overflow = refl

-- years 0 and 39 are none, and year 38 is the last
pub tally_years :
    (tally_add (tally (pos 5) (pos 6)) 0 (pos 1) (pos 2) ≡ tally (pos 5) (pos 6)) × (tally_add (tally (pos 5) (pos 6)) 39 (pos 1) (pos 2) ≡ tally (pos 5) (pos 6))
    × (tally_add (tally (pos 5) (pos 6)) 38 (pos 1) (pos 2) ≡ record { rbns = pos 5 ∷ replicate 36 (pos 0) ++ pos 1 ∷ []; ibnr = pos 6 ∷ replicate 36 (pos 0) ++ pos 2 ∷ [] })
unfolding opened_further
tally_years = (refl, refl, refl)
