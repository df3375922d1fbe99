-- Examples of what `closing` prints. Assumes nothing.
use Rattle.std.specs.Prelude.{ℕ, ◌+◌, ◌≡◌, refl, List, [], ◌∷◌, ◌++◌}
use Rattle.model.specs.Calls.{closing_text}
use Rattle.model.specs.Examples.{two, asked, printed}
use Rattle.model.specs.Further.{K, told, opened_further}

-- 01's example, with the values that 02, Job 4, gives
pub closing_example : closing_text asked ≡ printed
unfolding opened_further
closing_example = refl

-- a first line with one digit for each number, and a file
abbrev input : ℕ → ℕ → ℕ → List ℕ → List ℕ
input m method basis f = (48 + m) ∷ 32 ∷ (48 + method) ∷ 32 ∷ (48 + basis) ∷ 10 ∷ f

-- no input at all, "2 0 1" without its newline, and "2  0 1" with two spaces
pub no_first_line :
    (closing_text [] ≡ told (49 ∷ [])) × (closing_text (50 ∷ 32 ∷ 48 ∷ 32 ∷ 49 ∷ []) ≡ told (49 ∷ []))
    × (closing_text (50 ∷ 32 ∷ 32 ∷ 48 ∷ 32 ∷ 49 ∷ 10 ∷ K) ≡ told (49 ∷ []))
unfolding opened_further
no_first_line = (refl, refl, refl)

-- m = 21, and m = 1
pub wrong_size : (closing_text (50 ∷ 49 ∷ 32 ∷ 48 ∷ 32 ∷ 49 ∷ 10 ∷ K) ≡ told (49 ∷ [])) × (closing_text (input 1 0 1 K) ≡ told (49 ∷ []))
unfolding opened_further
wrong_size = (refl, refl)

-- one byte too many, and K as a set of m = 3
pub wrong_length : (closing_text (asked ++ (0 ∷ [])) ≡ told (50 ∷ [])) × (closing_text (input 3 0 1 K) ≡ told (50 ∷ []))
unfolding opened_further
wrong_length = (refl, refl)

-- method 3, and basis 2
pub wrong_method : (closing_text (input 2 3 1 K) ≡ told (54 ∷ [])) × (closing_text (input 2 0 2 K) ≡ told (54 ∷ []))
unfolding opened_further
wrong_method = (refl, refl)

-- a row without counts is 9; a delay of -8,016,000,000 is 12
pub refused_sets :
    (closing_text (input 2 0 1 (two 0 80 20 0 ++ two 1 600 400 660)) ≡ told (57 ∷ []))
    × (closing_text (input 2 0 1 (two 0 25 75 50 ++ two 1 751 249 750)) ≡ told (49 ∷ 50 ∷ []))
unfolding opened_further
refused_sets = (refl, refl)
