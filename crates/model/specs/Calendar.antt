-- 01, Calendar years and the program. One cell added to a tally is TallyAdd of `year_tally`.
use Rattle.std.specs.Prelude.{ℕ, zero, suc, ◌+◌, ◌-◌, ◌*◌, ◌/◌, ◌%◌, true, false, ◌&&◌, cond, List, [], ◌∷◌, ◌++◌, Option, Some, None, ltb, leb, eqb, ℤ, pos, negsuc, ◌+ℤ◌, length, get_or, drop, replicate}
use Rattle.integers.specs.Sums.{sum}
use Rattle.year_tally.specs.TallyAdd.{tally_add}
use Rattle.year_tally.specs.declared.Tally.{Tally}
use Rattle.model.specs.Lists.{at}
use Rattle.model.specs.declared.Run.{Run}
use Rattle.model.specs.declared.Asked.{Asked}

-- the tally before any cell
abbrev pub empty_tally : Tally
empty_tally = record { rbns = replicate 38 (pos 0); ibnr = replicate 38 (pos 0) }

-- t = i + j - m, of cell n of the output: 0 where the cell is known
abbrev pub calendar_year : ℕ → ℕ → ℕ
calendar_year m n = n / (2 * m - 1) + 1 + n % (2 * m - 1) - m

-- the tally of the first n cells of an output
unfoldable pub tally_to : ℕ → List ℤ → ℕ → Tally
tally_to m out zero = empty_tally
tally_to m out (suc n) = tally_add (tally_to m out n) (calendar_year m n) (at out (2 * n)) (at out (2 * n + 1))

-- of all m(2m-1) cells
unfoldable pub tally_of : ℕ → List ℤ → Tally
tally_of m out = tally_to m out (m * (2 * m - 1))

-- ---- the text, in ASCII

-- the decimal digits of n, highest first, with no leading zero: at most `fuel` of them
unfoldable pub digits_in : ℕ → ℕ → List ℕ
digits_in zero n = []
digits_in (suc fuel) n = elim (ltb n 10) [ true ↦ (48 + n) ∷ [] | false ↦ digits_in fuel (n / 10) ++ ((48 + n % 10) ∷ []) ]

-- all of them: there are at most n + 1
unfoldable pub digits : ℕ → List ℕ
digits n = digits_in (suc n) n

-- an amount: its digits, with a minus where it is below zero (45 is the minus)
unfoldable pub amount : ℤ → List ℕ
amount (pos n) = digits n
amount (negsuc n) = 45 ∷ digits (suc n)

-- a line: its name, x, y and what they come to, parted by spaces (32), and a newline (10)
unfoldable pub line : List ℕ → ℤ → ℤ → List ℕ
line name x y = name ++ (32 ∷ []) ++ amount x ++ (32 ∷ []) ++ amount y ++ (32 ∷ []) ++ amount (x +ℤ y) ++ (10 ∷ [])

-- the lines of calendar years 1 to n, each laid out from its year's digits, RBNS and IBNR
unfoldable pub lines : (List ℕ → ℤ → ℤ → List ℕ) → Tally → ℕ → List ℕ
lines layout t zero = []
lines layout t (suc n) = lines layout t n ++ layout (digits (suc n)) (at t.rbns n) (at t.ibnr n)

-- those of the 2m - 2 calendar years, and one, with the name `all`, of their totals
unfoldable pub all_lines : (List ℕ → ℤ → ℤ → List ℕ) → List ℕ → ℕ → Tally → List ℕ
all_lines layout all m t = lines layout t (2 * m - 2) ++ layout all (sum (2 * m - 2) (at t.rbns)) (sum (2 * m - 2) (at t.ibnr))

-- the text of a tally: the totals are named T (84)
unfoldable pub tally_text : ℕ → Tally → List ℕ
tally_text m t = all_lines line (84 ∷ []) m t

-- the text of the refusal n: "refused ", its digits and a newline
unfoldable pub refusal_text : ℕ → List ℕ
refusal_text n = (114 ∷ 101 ∷ 102 ∷ 117 ∷ 115 ∷ 101 ∷ 100 ∷ 32 ∷ []) ++ digits n ++ (10 ∷ [])

-- ---- the first line

-- the decimal digits that s starts with
unfoldable pub front : List ℕ → List ℕ
front [] = []
front (b ∷ s) = elim (leb 48 b && leb b 57) [ true ↦ b ∷ front s | false ↦ [] ]

-- the number that digits say, read after digits that said v
unfoldable pub value_from : ℕ → List ℕ → ℕ
value_from v [] = v
value_from v (b ∷ s) = value_from (v * 10 + (b - 48)) s

-- a run of one to four digits at place a of s with the byte `end` behind it: its number, and the
-- place after that byte
unfoldable pub run_at : List ℕ → ℕ → ℕ → Option Run
run_at s a end =
    let d = front (drop a s) in
    cond (leb 1 (length d) && leb (length d) 4 && eqb (get_or s (a + length d) 0) end) (Some (record { number = value_from 0 d; next = a + length d + 1 })) None

-- what is asked, by the third run, which a newline ends
unfoldable pub third : ℕ → ℕ → Option Run → Option Asked
third m method None = None
third m method (Some r) = Some (record { m = m; method = method; basis = r.number; start = r.next })

-- by the second run, which a space ends
unfoldable pub second : List ℕ → ℕ → Option Run → Option Asked
second s m None = None
second s m (Some r) = third m r.number (run_at s r.next 10)

-- by the first run, which a space ends
unfoldable pub first : List ℕ → Option Run → Option Asked
first s None = None
first s (Some r) = second s r.number (run_at s r.next 32)

-- what the first line asks: m, method, basis, and where the file starts; None unless it is three
-- runs and nothing else
unfoldable pub first_line : List ℕ → Option Asked
first_line s = first s (run_at s 0 32)

-- the refusal number of each case, 0 for none
unfoldable pub refusal_of : Option Asked → ℕ
refusal_of None = 1
refusal_of (Some a) = 0
