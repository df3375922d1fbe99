-- 01, Examples, with the values that 02, Job 4, gives: those marked (P) as one table, held to the
-- definitions of the calls by computation. The others are in the crate `examples`.
use Rattle.std.specs.Prelude.{ℕ, ◌+◌, ◌*◌, ◌-◌, ◌^◌, ◌≡◌, refl, Bool, true, false, ◌&&◌, List, [], ◌∷◌, ◌++◌, T, leb, eqb, ℤ, pos, negsuc, neg_ℤ, ◌+ℤ◌, ◌-ℤ◌, ◌*ℤ◌, replicate}
use Rattle.integers.specs.Sums.{sum}
use Rattle.model.specs.Lists.{tabulate, listed, at, every, total, count}
use Rattle.model.specs.Records.{triangle, spares_zero, least_first, signed, value_at, is_of, copies, value_of, has_incurred, set_of, given_set, in_range}
use Rattle.model.specs.Rounding.{S, even_of, nearest, r}
use Rattle.model.specs.Shares as Shares
use Rattle.model.specs.Shares.{C, latest, B, A, g_down, g, ultimate, g_list, b_list, ultimates}
use Rattle.model.specs.Delays.{delay_after, delays_to, delays, delays_of}
use Rattle.model.specs.RowBases as RowBases
use Rattle.model.specs.RowBases.{W, R, R*, row_base, leftover, leftovers}
use Rattle.model.specs.Cells.{s_list, pairs, rbns_from, ibnr_from, rbns, ibnr, place_of, size, entry, entries, output_from}
use Rattle.model.specs.Calendar.{tally_to, tally_of, digits_in, digits, amount, line, lines, all_lines, tally_text, refusal_text, front, value_from, run_at, third, second, first, first_line, refusal_of}
use Rattle.year_tally.specs.TallyAdd.{fits64, tally_add}
use Rattle.model.specs.BackTest.{cut_to, compared, gap, cell_number, cellwise, year_gap, yearwise, overall}
use Rattle.model.specs.Questions.{q1, q2, q3, q4, q5, q6, q7, q8, q9, q10, q11, q12, q13, q14, kinds, record_ok, each_cell, first_no, of_records, of_file, of_shares, of_delays, of_method, of_forecast}
use Rattle.model.specs.SetFile.{bytes, record_of}
use Rattle.model.specs.Calls.{call_refusal, read_refusal, shares_refusal, shares_of, shares_answer, delays_refusal, delays_answer, forecast_refusal, forecast_answer, forecast_output, back_test_refusal, back_test_of, back_test_answer, file_tally, file_text, closing_of, closing_text}

-- ---- the sets

-- m, and the file
pub data Example : Type 0 where
  set : ℕ → List ℕ → Example

-- row i of kind t, from delay j on, of line 0
unfoldable pub row_of : ℕ → ℕ → ℕ → List ℕ → List ℕ
row_of t i j [] = []
row_of t i j (x ∷ xs) = record_of t i j 0 x ++ row_of t i (j + 1) xs

-- the rows x, y / z of kind t, of a set with m = 2
unfoldable pub two : ℕ → ℕ → ℕ → ℕ → List ℕ
two t x y z = row_of t 1 0 (x ∷ y ∷ []) ++ row_of t 2 0 (z ∷ [])

-- set K: counts, paid and incurred
unfoldable pub K : Example
K = set 2 (two 0 80 20 90 ++ two 1 600 400 660 ++ two 2 900 100 1080)

-- late counts and early payments, whose second delay is the least that question 12 lets pass
unfoldable pub late : Example
late = set 2 (two 0 25 75 50 ++ two 1 750 250 750)

-- the same with one unit paid earlier
unfoldable pub later : Example
later = set 2 (two 0 25 75 50 ++ two 1 751 249 750)

-- K with counts so late that g(0) is below 10^6, and with one count less, so that it is 10^6
unfoldable pub thousand : Example
thousand = set 2 (two 0 1 1000 90 ++ two 1 600 400 660)

unfoldable pub thousand_less : Example
thousand_less = set 2 (two 0 1 999 90 ++ two 1 600 400 660)

-- the set of the back-test, m = 3
unfoldable pub past : Example
past =
    set 3
    (row_of 0 1 0 (80 ∷ 20 ∷ 0 ∷ []) ++ row_of 0 2 0 (90 ∷ 25 ∷ []) ++ row_of 0 3 0 (100 ∷ [])
    ++ row_of 1 1 0 (600 ∷ 400 ∷ 50 ∷ []) ++ row_of 1 2 0 (660 ∷ 430 ∷ []) ++ row_of 1 3 0 (700 ∷ []))

-- ---- what is asked, and what the calls answer

-- a method and a basis are named before a year and a delay
pub data Asked : Type 0 where
  b q p : ℕ → Asked
  U N : ℕ → Asked
  base : ℕ → ℕ → Asked
  RBNS IBNR together : ℕ → ℕ → ℕ → ℕ → Asked
  unpaid : ℕ → Asked
  refusal : ℕ → ℕ → Asked
  shares_refused : Asked
  count_g : ℕ → Asked
  tested : ℕ → ℕ → ℕ → ℕ → Asked
  tested_cell : ℕ → ℕ → ℕ → ℕ → ℕ → Asked

-- the output before a forecast: one entry more than it fills
unfoldable pub out : ℕ → List ℤ
out m = replicate (size m + 1) (pos 7)

-- the four numbers of a back-test
unfoldable pub figures : ℕ → List ℕ → ℕ → ℕ → ℕ → List ℤ
figures m f c method basis =
    let t = back_test_answer m f c method basis in
    pos t.cells ∷ pos t.cellwise ∷ pos t.yearwise ∷ pos t.overall ∷ []

unfoldable pub answer : ℕ → List ℕ → Asked → ℤ
answer m f (b j) = at (shares_answer m f).b j
answer m f (q j) = at (shares_answer m f).q j
answer m f (p l) = at (delays_answer m f).p l
answer m f (U i) = at (shares_answer m f).u (i - 1)
answer m f (N i) = at (shares_answer m f).n (i - 1)
answer m f (base method i) = row_base m (set_of m f) method i
answer m f (RBNS method basis i j) = at (forecast_output m f method basis (out m)) (place_of m i j)
answer m f (IBNR method basis i j) = at (forecast_output m f method basis (out m)) (place_of m i j + 1)
answer m f (together method basis i j) =
    let o = forecast_output m f method basis (out m) in
    at o (place_of m i j) +ℤ at o (place_of m i j + 1)
answer m f (unpaid i) = at (shares_answer m f).u (i - 1) -ℤ latest m (set_of m f).paid i
answer m f (refusal method basis) = pos (forecast_answer m f method basis (size m)).refusal
answer m f shares_refused = pos (shares_answer m f).refusal
answer m f (count_g j) = g m (set_of m f).counts j
answer m f (tested c method basis k) = at (figures m f c method basis) k
answer m f (tested_cell c method basis i j) =
    let s = cut_to (m - c) (set_of m f) in
    let d = delays_of (m - c) s in
    rbns (m - c) s d method basis i j +ℤ ibnr (m - c) s d method i j

unfoldable pub answer_of : Example → Asked → ℤ
answer_of (set m f) a = answer m f a

-- what N(i), or an RBNS cell under basis 1, is rounded from
pub data Rounded : Type 0 where
  of_n : ℕ → Rounded
  of_rbns : ℕ → ℕ → ℕ → Rounded

-- its upper and its lower number
unfoldable pub above : ℕ → List ℕ → Rounded → ℤ
above m f (of_n i) = latest m (set_of m f).counts i *ℤ S
above m f (of_rbns method i j) =
    let s = set_of m f in
    row_base m s method i *ℤ pairs m j (λ k. leb k (m - i)) (b_list m s.counts) (delays_of m s)

unfoldable pub below : ℕ → List ℕ → Rounded → ℤ
below m f (of_n i) = g m (set_of m f).counts (m - i)
below m f (of_rbns method i j) = S *ℤ S

-- a row of the table: a set, what is asked of it, and the value that is stated; or what is asked
-- before rounding, and x for the value x / 2
pub data Row : Type 0 where
  row : Example → Asked → ℤ → Row
  halves : Example → Rounded → ℤ → Row

abbrev pub same : ℤ → ℤ → Bool
same (pos x) (pos y) = eqb x y
same (pos x) (negsuc y) = false
same (negsuc x) (pos y) = false
same (negsuc x) (negsuc y) = eqb x y

-- x / 2 is what is rounded, compared multiplied out
unfoldable pub halved : Example → Rounded → ℤ → Bool
halved (set m f) a x = same (above m f a *ℤ pos 2) (x *ℤ below m f a)

-- each row's value is what the calls answer
unfoldable pub right : List Row → Bool
right [] = true
right (row e a z ∷ rows) = same (answer_of e a) z && right rows
right (halves e a x ∷ rows) = halved e a x && right rows

-- ---- the joint table of those marked (P)

unfoldable pub table : List Row
table =
    -- b and q of K
    row K (b 0) (pos 800000000) ∷ row K (b 1) (pos 200000000)
    ∷ row K (q 0) (pos 600000000) ∷ row K (q 1) (pos 400000000)
    -- its delays
    ∷ row K (p 0) (pos 750000000) ∷ row K (p 1) (pos 312500000)
    -- its ultimates
    ∷ row K (U 1) (pos 1000) ∷ row K (U 2) (pos 1100) ∷ row K (N 1) (pos 100) ∷ row K (N 2) (pos 112)
    -- N(2) before rounding, 112.5
    ∷ halves K (of_n 2) (pos 225)
    -- year 2 under DCL, basis 1: delays 1 and 2
    ∷ row K (RBNS 0 1 2 1) (pos 275) ∷ row K (IBNR 0 1 2 1) (pos 165) ∷ row K (RBNS 0 1 2 2) (pos 0) ∷ row K (IBNR 0 1 2 2) (pos 69)
    -- delay 1 in all is what U(2) leaves to pay
    ∷ row K (together 0 1 2 1) (pos 1100 -ℤ pos 660) ∷ row K (unpaid 2) (pos 1100 -ℤ pos 660)
    -- year 1: delay 2, and its RBNS before rounding, 62.5
    ∷ row K (RBNS 0 1 1 2) (pos 62) ∷ row K (IBNR 0 1 1 2) (pos 0) ∷ halves K (of_rbns 0 1 2) (pos 125)
    -- year 2 under BDCL: its base, and delay 1
    ∷ row K (base 1 2) (pos 1200) ∷ row K (RBNS 1 1 2 1) (pos 300) ∷ row K (IBNR 1 1 2 1) (pos 180)
    -- and under IDCL
    ∷ row K (base 2 2) (pos 1350) ∷ row K (RBNS 2 1 2 1) (pos 338) ∷ row K (IBNR 2 1 2 1) (pos 202)
    -- delays at the bound of question 12: accepted, with year 2's cells of delay 1
    ∷ row late (p 0) (pos (3 * 10 ^ 9)) ∷ row late (p 1) (neg_ℤ (pos (8 * 10 ^ 9))) ∷ row late (refusal 0 1) (pos 0)
    ∷ row late (RBNS 0 1 2 1) (neg_ℤ (pos 2000)) ∷ row late (IBNR 0 1 2 1) (pos 2250)
    -- a delay past it
    ∷ row later (refusal 0 1) (pos 12)
    ∷ []

-- ---- the program

-- what `closing` reads: "2 0 1", a newline, and K without incurred
unfoldable pub asked : List ℕ
asked = (50 ∷ 32 ∷ 48 ∷ 32 ∷ 49 ∷ 10 ∷ []) ++ two 0 80 20 90 ++ two 1 600 400 660

-- what it prints: the lines "1 337 165 502", "2 0 69 69" and "T 337 234 571"
unfoldable pub printed : List ℕ
printed =
    49 ∷ 32 ∷ 51 ∷ 51 ∷ 55 ∷ 32 ∷ 49 ∷ 54 ∷ 53 ∷ 32 ∷ 53 ∷ 48 ∷ 50 ∷ 10
    ∷ 50 ∷ 32 ∷ 48 ∷ 32 ∷ 54 ∷ 57 ∷ 32 ∷ 54 ∷ 57 ∷ 10
    ∷ 84 ∷ 32 ∷ 51 ∷ 51 ∷ 55 ∷ 32 ∷ 50 ∷ 51 ∷ 52 ∷ 32 ∷ 53 ∷ 55 ∷ 49 ∷ 10
    ∷ []

-- ---- the theorems

-- what the computation opens: every definition above this file, and those of this file
unfoldable pub opened : ℕ
unfolding
    tabulate listed every total count sum
    triangle spares_zero least_first signed value_at is_of copies value_of has_incurred set_of given_set in_range
    S even_of nearest r
    C latest B A g_down g Shares.b ultimate g_list b_list ultimates
    delay_after delays_to delays delays_of
    RowBases.U W R R* row_base leftover leftovers
    s_list pairs rbns_from ibnr_from rbns ibnr entry entries output_from
    fits64 tally_add tally_to tally_of digits_in digits amount line lines all_lines tally_text refusal_text front value_from run_at third second first first_line refusal_of
    cut_to compared gap cell_number cellwise year_gap yearwise overall
    q1 q2 q3 q4 q5 q6 q7 q8 q9 q10 q11 q12 q13 q14 kinds record_ok each_cell first_no of_records of_file of_shares of_delays of_method of_forecast
    call_refusal read_refusal shares_refusal shares_of shares_answer delays_refusal delays_answer forecast_refusal forecast_answer forecast_output back_test_refusal back_test_of back_test_answer file_tally file_text closing_of closing_text
    bytes record_of row_of two K late later thousand thousand_less past out figures answer answer_of above below halved right table asked printed
opened = 0

-- 2.5, 3.5, -2.5 and -3.5; 0.5 and -0.5; and below and above a half, 2.4 and -2.6
pub halves_to_even :
    (r (pos 5) (pos 2) ≡ pos 2) × (r (pos 7) (pos 2) ≡ pos 4) × (r (negsuc 4) (pos 2) ≡ negsuc 1) × (r (negsuc 6) (pos 2) ≡ negsuc 3)
    × (r (pos 1) (pos 2) ≡ pos 0) × (r (negsuc 0) (pos 2) ≡ pos 0) × (r (pos 12) (pos 5) ≡ pos 2) × (r (negsuc 12) (pos 5) ≡ negsuc 2)
unfolding opened
halves_to_even = (refl, refl, refl, refl, refl, refl, refl, refl)

-- the definitions give every value of the table
pub examples : T (right table)
unfolding opened
examples = tt

-- what the table states before rounding is what the definitions round
pub n_rounded : (m : ℕ) (f : List ℕ) (i : ℕ) → ultimate m (set_of m f).counts i ≡ r (above m f (of_n i)) (below m f (of_n i))
unfolding ultimate above below
n_rounded m f i = refl

pub rbns_rounded :
    (m : ℕ) (f : List ℕ) (method i j : ℕ)
    → rbns_from m (row_base m (set_of m f) method i) (s_list m (set_of m f) 1 i) (delays_of m (set_of m f)) i j ≡ r (above m f (of_rbns method i j)) (below m f (of_rbns method i j))
unfolding rbns_from s_list above below
rbns_rounded m f method i j = refl
