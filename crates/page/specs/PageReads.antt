-- 02, Job 1: what stands at each line and column of a closing page, held to what `closing` prints.
use Rattle.std.specs.Prelude.{◌≡◌, true, false, List, [], ◌∷◌, ◌++◌, ℕ, zero, suc, ◌+◌, ◌-◌, ◌*◌, ◌≤◌, ◌<◌, eqb, ℤ, ◌+ℤ◌, length, replicate, take, drop}
use Rattle.integers.specs.Sums.{sum}
use Rattle.model.specs.Lists.{at}
use Rattle.model.specs.Calendar.{value_from}
use Rattle.model.specs.Page.{aligned}
use Rattle.year_tally.specs.declared.Tally.{Tally}
use Rattle.text.specs.Amount.{amount_value}

-- ---- how a page and a text are read

-- the `width` bytes of a page from a column on in a line, both counted from 0; 68 bytes are a line
unfoldable pub field_at : List ℕ → ℕ → ℕ → ℕ → List ℕ
field_at page line column width = take width (drop (68 * line + column) page)

-- a field without the spaces (32) that it starts with
unfoldable pub trimmed : List ℕ → List ℕ
trimmed [] = []
trimmed (b ∷ s) = elim (eqb b 32) [ true ↦ trimmed s | false ↦ b ∷ s ]

-- what stands before the first byte e of a text, and what stands behind it
unfoldable pub until : ℕ → List ℕ → List ℕ
until e [] = []
until e (b ∷ s) = elim (eqb b e) [ true ↦ [] | false ↦ b ∷ until e s ]

unfoldable pub past : ℕ → List ℕ → List ℕ
past e [] = []
past e (b ∷ s) = elim (eqb b e) [ true ↦ s | false ↦ past e s ]

-- part n, from 0, of a text that the bytes e part
unfoldable pub part : ℕ → List ℕ → ℕ → List ℕ
part e s zero = until e s
part e s (suc n) = part e (past e s) n

-- a line of a text without its newline (10), and a word of a line, both counted from 0
abbrev pub line_of : List ℕ → ℕ → List ℕ
line_of text l = part 10 text l

abbrev pub word : List ℕ → ℕ → ℕ → List ℕ
word text l k = part 32 (line_of text l) k

-- ---- what is read

-- the 21 bytes from a column on in line k + 1 of the page, and word n in line k of the text: the
-- same amount z
pub record SameAmount (page text : List ℕ) (k column n : ℕ) (z : ℤ) : Type 0 where
  pub right : field_at page (suc k) column 21 ≡ aligned 21 (word text k n)
  pub same : trimmed (field_at page (suc k) column 21) ≡ word text k n
  pub reads : amount_value (trimmed (field_at page (suc k) column 21)) ≡ z
  pub narrow : length (word text k n) ≤ 21

-- the three amounts of a line: RBNS x, IBNR y and what they come to
pub record SameLine (page text : List ℕ) (k : ℕ) (x y : ℤ) : Type 0 where
  pub rbns : SameAmount page text k 4 1 x
  pub ibnr : SameAmount page text k 25 2 y
  pub total : SameAmount page text k 46 3 (x +ℤ y)

-- the 4 bytes of a year in line k + 1 of the page, and the first word in line k of the text
pub record SameYear (page text : List ℕ) (k : ℕ) : Type 0 where
  pub right : field_at page (suc k) 0 4 ≡ aligned 4 (word text k 0)
  pub same : trimmed (field_at page (suc k) 0 4) ≡ word text k 0
  pub reads : value_from 0 (trimmed (field_at page (suc k) 0 4)) ≡ suc k

-- n spaces and a word
abbrev behind : ℕ → List ℕ → List ℕ
behind n s = replicate n 32 ++ s

-- the page and the text of one tally t of size m
pub record PageReads (m : ℕ) (t : Tally) (page text : List ℕ) : Type 0 where
  -- 2m lines of 67 bytes and a newline, and nothing else
  pub bytes : length page ≡ 136 * m
  pub line_bytes : (l : ℕ) → l < 2 * m → (length (line_of page l) ≡ 67) × (field_at page l 0 68 ≡ line_of page l ++ (10 ∷ []))
  -- the first line: YEAR, RBNS, IBNR and TOTAL
  pub year_word : field_at page 0 0 4 ≡ 89 ∷ 69 ∷ 65 ∷ 82 ∷ []
  pub rbns_word : field_at page 0 4 21 ≡ behind 17 (82 ∷ 66 ∷ 78 ∷ 83 ∷ [])
  pub ibnr_word : field_at page 0 25 21 ≡ behind 17 (73 ∷ 66 ∷ 78 ∷ 82 ∷ [])
  pub total_word : field_at page 0 46 21 ≡ behind 16 (84 ∷ 79 ∷ 84 ∷ 65 ∷ 76 ∷ [])
  -- the calendar years
  pub years : (k : ℕ) → k < 2 * m - 2 → SameYear page text k
  pub year_amounts : (k : ℕ) → k < 2 * m - 2 → SameLine page text k (at t.rbns k) (at t.ibnr k)
  -- the last line: ALL, where the text has T
  pub all : field_at page (2 * m - 1) 0 4 ≡ behind 1 (65 ∷ 76 ∷ 76 ∷ [])
  pub all_of : word text (2 * m - 2) 0 ≡ 84 ∷ []
  pub all_amounts : SameLine page text (2 * m - 2) (sum (2 * m - 2) (at t.rbns)) (sum (2 * m - 2) (at t.ibnr))
