-- Examples of given delays (02, Job 6). The values are those of an independent calculation with big
-- numbers. Assumes nothing.
use Rattle.std.specs.Prelude.{ℕ, ◌*◌, ◌^◌, ◌≡◌, refl, Bool, true, false, List, [], ◌∷◌, ◌++◌, ℤ, pos, replicate}
use Rattle.integers.specs.Absolute.{∣◌∣}
use Rattle.model.specs.Lists.{every}
use Rattle.model.specs.Delays.{solves_at}
use Rattle.model.specs.Questions.{q20, of_given_delays, of_forecast_with}
use Rattle.model.specs.Calls.{check_delays_refusal, check_delays_answer, forecast_output, forecast_with_refusal, forecast_with_answer, forecast_with_output}
use Rattle.model.specs.Examples.{two}
use Rattle.model.specs.Further.{K, less, opened_further}

unfoldable pub opened_given : ℕ
unfolding opened_further ∣◌∣ solves_at q20 of_given_delays of_forecast_with check_delays_refusal check_delays_answer forecast_with_refusal forecast_with_answer forecast_with_output
opened_given = 0

abbrev pub pair : ℕ → ℕ → List ℤ
pair x y = pos x ∷ pos y ∷ []

-- ---- question 20

-- by the shares of K
abbrev of_k : List ℤ → Bool
of_k = q20 2 (pair 800000000 200000000) (pair 600000000 400000000)

-- its own delays; each of them one off, in either direction
pub one_off :
    (of_k (pair 750000000 312500000) ≡ true) × (of_k (pair 750000001 312500000) ≡ false) × (of_k (pair 749999999 312500000) ≡ false)
    × (of_k (pair 750000000 312500001) ≡ false) × (of_k (pair 750000000 312499999) ≡ false)
unfolding opened_given
one_off = (refl, refl, refl, refl, refl)

-- none, one less than m and one more, if only a zero
pub numbers : (of_k [] ≡ false) × (of_k (pos 750000000 ∷ []) ≡ false) × (of_k (pair 750000000 312500000 ++ (pos 0 ∷ [])) ≡ false)
unfolding opened_given
numbers = (refl, refl, refl)

-- q(0) a little higher, so that p(0) would be 750000002.5: either neighbour is accepted, and none
-- beside them
abbrev at_tie : ℕ → Bool
at_tie x = q20 2 (pair 800000000 200000000) (pair 600000002 399999998) (pair x 312499997)

pub tie : (at_tie 750000001 ≡ false) × (at_tie 750000002 ≡ true) × (at_tie 750000003 ≡ true) × (at_tie 750000004 ≡ false)
unfolding opened_given
tie = (refl, refl, refl, refl)

-- 01's delays at the bound of question 12, and past it, where they solve every line
pub range :
    (q20 2 (pair 250000000 750000000) (pair 750000000 250000000) (pos (3 * 10 ^ 9) ∷ less (8 * 10 ^ 9) ∷ []) ≡ true)
    × (q20 2 (pair 250000000 750000000) (pair 751000000 249000000) (pos 3004000000 ∷ less 8016000000 ∷ []) ≡ false)
    × (every 2 (solves_at (pair 250000000 750000000) (pair 751000000 249000000) (pos 3004000000 ∷ less 8016000000 ∷ [])) ≡ true)
unfolding opened_given
range = (refl, refl, refl)

-- ---- the calls

-- K with its own delays, and with others; a row without counts, which 9 refuses first
pub checks :
    (check_delays_refusal 2 K (pair 750000000 312500000) ≡ 0) × (check_delays_refusal 2 K (pair 750000000 312500001) ≡ 20)
    × (check_delays_refusal 2 (two 0 0 0 90 ++ two 1 600 400 660) [] ≡ 9)
unfolding opened_given
checks = (refl, refl, refl)

-- 7 before 20, and 20 before 13, which the right delays come to
abbrev no_incurred : List ℕ
no_incurred = two 0 80 20 90 ++ two 1 600 400 660 ++ two 2 0 1 1

pub order :
    (forecast_with_refusal 2 K 0 1 [] 11 ≡ 7) × (forecast_with_refusal 2 no_incurred 1 1 [] 12 ≡ 20) × (forecast_with_refusal 2 no_incurred 1 1 (pair 750000000 312500000) 12 ≡ 13)
unfolding opened_given
order = (refl, refl, refl)

-- the forecast goes by the given delays: K's own give its forecast, and at a tie the two accepted
-- values give two forecasts
abbrev large : List ℕ
large = two 0 80 20 90 ++ two 1 6000000020 3999999980 6600000000

abbrev written : ℤ → List ℤ
written x = pos 0 ∷ pos 0 ∷ pos 0 ∷ pos 0 ∷ pos 624999994 ∷ pos 0 ∷ pos 0 ∷ pos 0 ∷ pos 2749999964 ∷ x ∷ pos 0 ∷ pos 687499991 ∷ pos 5 ∷ []

pub outputs :
    (forecast_with_output 2 K 0 1 (pair 750000000 312500000) (replicate 12 (pos 5)) ≡ forecast_output 2 K 0 1 (replicate 12 (pos 5)))
    × (forecast_with_output 2 large 0 1 (pair 750000002 312499997) (replicate 13 (pos 5)) ≡ written (pos 1649999999))
    × (forecast_with_output 2 large 0 1 (pair 750000003 312499997) (replicate 13 (pos 5)) ≡ written (pos 1650000001))
    × (forecast_with_output 2 large 0 1 (pair 750000004 312499997) (replicate 13 (pos 5)) ≡ replicate 13 (pos 5))
unfolding opened_given
outputs = (refl, refl, refl, refl)
