-- 02, Job 1: the closing page. It has the lines of `closing`'s text in columns, below a heading.
use Rattle.std.specs.Prelude.{ℕ, ◌-◌, List, [], ◌∷◌, ◌++◌, ℤ, ◌+ℤ◌, length, replicate}
use Rattle.model.specs.Calendar.{amount, all_lines}
use Rattle.year_tally.specs.declared.Tally.{Tally}

-- a text at the right of a field of `width` bytes, behind spaces (32)
unfoldable pub aligned : ℕ → List ℕ → List ℕ
aligned width s = replicate (width - length s) 32 ++ s

-- a line: a year in 4 bytes, three amounts in 21 each, and a newline (10)
unfoldable pub columns : List ℕ → List ℕ → List ℕ → List ℕ → List ℕ
columns year a b c = aligned 4 year ++ aligned 21 a ++ aligned 21 b ++ aligned 21 c ++ (10 ∷ [])

-- the first line: YEAR, RBNS, IBNR and TOTAL, in ASCII
unfoldable pub heading : List ℕ
heading = columns (89 ∷ 69 ∷ 65 ∷ 82 ∷ []) (82 ∷ 66 ∷ 78 ∷ 83 ∷ []) (73 ∷ 66 ∷ 78 ∷ 82 ∷ []) (84 ∷ 79 ∷ 84 ∷ 65 ∷ 76 ∷ [])

-- the line of a name: RBNS x, IBNR y and what they come to
unfoldable pub page_line : List ℕ → ℤ → ℤ → List ℕ
page_line name x y = columns name (amount x) (amount y) (amount (x +ℤ y))

-- the page of a tally: the heading and the lines, of which the last is named ALL
unfoldable pub page_text : ℕ → Tally → List ℕ
page_text m t = heading ++ all_lines page_line (65 ∷ 76 ∷ 76 ∷ []) m t
