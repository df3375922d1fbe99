-- Examples of the closing page (02, Job 1): a field, and what comes before 15. The pages themselves
-- are held to the definition in the crate `examples`; their figures are those of Examples, or of an
-- independent calculation with big numbers.
use Rattle.std.specs.Prelude.{ℕ, ◌≡◌, refl, List, [], ◌∷◌, ◌++◌, replicate}
use Rattle.model.specs.Page.{aligned, columns, heading, page_line, page_text}
use Rattle.model.specs.Questions.{q15}
use Rattle.model.specs.Calls.{page_refusal, file_page, page_output}
use Rattle.model.specs.Examples.{two}
use Rattle.model.specs.Further.{K, opened_further}

-- n spaces and a word
abbrev after : ℕ → List ℕ → List ℕ
after n word = replicate n 32 ++ word

-- the byte that ends a line
abbrev newline : List ℕ
newline = 10 ∷ []

-- the first line of every page
unfoldable pub printed_heading : List ℕ
printed_heading = (89 ∷ 69 ∷ 65 ∷ 82 ∷ []) ++ after 17 (82 ∷ 66 ∷ 78 ∷ 83 ∷ []) ++ after 17 (73 ∷ 66 ∷ 78 ∷ 82 ∷ []) ++ after 16 (84 ∷ 79 ∷ 84 ∷ 65 ∷ 76 ∷ []) ++ newline

-- K's page under DCL, basis 1, with year 1's 62.5 rounded to 62 (02, Job 4): the lines of 1, 337,
-- 165, 502; of 2, 0, 69, 69; of ALL, 337, 234, 571
unfoldable pub page_k : List ℕ
page_k =
    printed_heading
    ++ after 3 (49 ∷ []) ++ after 18 (51 ∷ 51 ∷ 55 ∷ []) ++ after 18 (49 ∷ 54 ∷ 53 ∷ []) ++ after 18 (53 ∷ 48 ∷ 50 ∷ []) ++ newline
    ++ after 3 (50 ∷ []) ++ after 20 (48 ∷ []) ++ after 19 (54 ∷ 57 ∷ []) ++ after 19 (54 ∷ 57 ∷ []) ++ newline
    ++ after 1 (65 ∷ 76 ∷ 76 ∷ []) ++ after 18 (51 ∷ 51 ∷ 55 ∷ []) ++ after 18 (50 ∷ 51 ∷ 52 ∷ []) ++ after 18 (53 ∷ 55 ∷ 49 ∷ []) ++ newline

-- late counts and early payments
unfoldable pub late_file : List ℕ
late_file = two 0 25 75 50 ++ two 1 750 250 750

-- its page: the lines of 1, -8000, 2250, -5750; of 2, 0, -6000, -6000; of ALL, -8000, -3750, -11750
unfoldable pub page_late : List ℕ
page_late =
    printed_heading
    ++ after 3 (49 ∷ []) ++ after 16 (45 ∷ 56 ∷ 48 ∷ 48 ∷ 48 ∷ []) ++ after 17 (50 ∷ 50 ∷ 53 ∷ 48 ∷ []) ++ after 16 (45 ∷ 53 ∷ 55 ∷ 53 ∷ 48 ∷ []) ++ newline
    ++ after 3 (50 ∷ []) ++ after 20 (48 ∷ []) ++ after 16 (45 ∷ 54 ∷ 48 ∷ 48 ∷ 48 ∷ []) ++ after 16 (45 ∷ 54 ∷ 48 ∷ 48 ∷ 48 ∷ []) ++ newline
    ++ after 1 (65 ∷ 76 ∷ 76 ∷ []) ++ after 16 (45 ∷ 56 ∷ 48 ∷ 48 ∷ 48 ∷ []) ++ after 16 (45 ∷ 51 ∷ 55 ∷ 53 ∷ 48 ∷ []) ++ after 15 (45 ∷ 49 ∷ 49 ∷ 55 ∷ 53 ∷ 48 ∷ []) ++ newline

unfoldable pub opened_page : ℕ
unfolding
    opened_further aligned columns heading page_line page_text q15 page_refusal file_page page_output printed_heading page_k late_file page_late
opened_page = 0

-- a field of 4 bytes
pub field : aligned 4 (49 ∷ []) ≡ 32 ∷ 32 ∷ 32 ∷ 49 ∷ []
unfolding opened_page
field = refl

-- 15 comes after 5 and 6, and before 9
pub order :
    (page_refusal 2 (two 0 80 20 10000001 ++ two 1 600 400 660) 0 1 271 ≡ 5) × (page_refusal 2 K 3 1 271 ≡ 6)
    × (page_refusal 2 (two 0 80 20 0 ++ two 1 600 400 660) 0 1 271 ≡ 15) × (page_refusal 2 (two 0 80 20 0 ++ two 1 600 400 660) 0 1 272 ≡ 9)
unfolding opened_page
order = (refl, refl, refl, refl)
