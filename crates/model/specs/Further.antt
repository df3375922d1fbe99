-- Examples of our own, for what 01's leave open. The values are those of an independent calculation
-- with big numbers.
use Rattle.std.specs.Prelude.{ℕ, ◌%◌, ◌^◌, ◌≡◌, refl, Bool, true, false, ◌&&◌, cond, List, [], ◌∷◌, ◌++◌, T, eqb, ℤ, pos, neg_ℤ, ◌*ℤ◌, length, take, replicate, get_or, set}
use Rattle.std.specs.Float.Ieee.{div, of_int}
use Rattle.model.specs.Lists.{tabulate, chained}
use Rattle.model.specs.Records.{set_of}
use Rattle.model.specs.Delays.{delays_of}
use Rattle.model.specs.RowBases.{leftovers}
use Rattle.model.specs.Cells.{output_from}
use Rattle.model.specs.PaidReserve.{Fraction, GDown, G, H, reserve, bound}
use Rattle.model.specs.ClaimCosts.{quotient, mean_cost, factor, inflation, claim_costs, no_claim_costs}
use Rattle.model.specs.Questions.{first_no, of_forecast, q5_writer, q7_writer}
use Rattle.model.specs.SetFile.{word, record_of, of_kind, file_of}
use Rattle.model.specs.Calls.{read_answer, write_refusal, write_output, forecast_answer, claim_costs_answer, closing_text}
use Rattle.model.specs.Examples.{two, same, opened, asked}
use Rattle.model.specs.declared.TriangleSet.{TriangleSet}

-- ---- the sets

-- the bytes of set K
unfoldable pub K : List ℕ
K = two 0 80 20 90 ++ two 1 600 400 660 ++ two 2 900 100 1080

-- a file with another line of cover in each record (02, Job 7)
unfoldable pub relined : ℕ → List ℕ → List ℕ
relined line f = tabulate (length f) (λ p. cond (eqb (p % 16) 3) line (get_or f p 0))

-- -n
abbrev pub less : ℕ → ℤ
less n = neg_ℤ (pos n)

-- rows of a triangle, 20 places to a year
unfoldable pub rows_of : List (List ℤ) → List ℤ
rows_of [] = []
rows_of (xs ∷ rows) = take 20 (xs ++ replicate 20 (pos 0)) ++ rows_of rows

-- a set of counts, paid and incurred, of line 4: what follows goes over sets, since by computation
-- it takes long to read a file
abbrev pub of_rows : List (List ℤ) → List (List ℤ) → List (List ℤ) → TriangleSet
of_rows c d e = record { line = 4; has_incurred = true; counts = rows_of c; paid = rows_of d; incurred = rows_of e }

-- counts of m = 3
abbrev counts3 : List (List ℤ)
counts3 = (pos 80 ∷ pos 20 ∷ pos 10 ∷ []) ∷ (pos 90 ∷ pos 25 ∷ []) ∷ (pos 100 ∷ []) ∷ []

-- negative incurred cells, and row bases below zero under IDCL
unfoldable pub negative_set : TriangleSet
negative_set =
    of_rows counts3 ((pos 600 ∷ pos 400 ∷ pos 50 ∷ []) ∷ (pos 660 ∷ pos 430 ∷ []) ∷ (pos 700 ∷ []) ∷ [])
    ((pos 1500 ∷ less 300 ∷ less 100 ∷ []) ∷ (pos 1500 ∷ less 600 ∷ []) ∷ (pos 800 ∷ []) ∷ [])

-- m = 3: no payments yet in years 2 and 3
unfoldable pub unpaid : TriangleSet
unpaid =
    of_rows counts3 ((pos 600 ∷ pos 400 ∷ pos 50 ∷ []) ∷ (pos 0 ∷ pos 0 ∷ []) ∷ (pos 0 ∷ []) ∷ [])
    ((pos 900 ∷ pos 100 ∷ pos 50 ∷ []) ∷ (pos 1000 ∷ less 200 ∷ []) ∷ (pos 1080 ∷ []) ∷ [])

-- m = 3: reserves of years 2 and 3 that round away
unfoldable pub settled : TriangleSet
settled =
    of_rows counts3 ((pos 99000 ∷ pos 900 ∷ pos 100 ∷ []) ∷ (pos 200 ∷ pos 3 ∷ []) ∷ (pos 40 ∷ []) ∷ [])
    ((pos 99000 ∷ pos 900 ∷ pos 100 ∷ []) ∷ (pos 290 ∷ pos 10 ∷ []) ∷ (pos 12 ∷ []) ∷ [])

-- m = 3: few counts, so that the rounding of the weights of basis 0 shows
unfoldable pub few : TriangleSet
few =
    of_rows ((pos 1 ∷ pos 1 ∷ pos 1 ∷ []) ∷ (pos 2 ∷ pos 1 ∷ []) ∷ (pos 1 ∷ []) ∷ [])
    ((pos 6000000000 ∷ pos 3000000000 ∷ pos 1000000000 ∷ []) ∷ (pos 7000000000 ∷ pos 2500000000 ∷ []) ∷ (pos 6400000001 ∷ []) ∷ []) []

-- m = 4, for a back-test
unfoldable pub four : TriangleSet
four =
    of_rows ((pos 50 ∷ pos 30 ∷ pos 15 ∷ pos 5 ∷ []) ∷ (pos 60 ∷ pos 33 ∷ pos 20 ∷ []) ∷ (pos 55 ∷ pos 40 ∷ []) ∷ (pos 70 ∷ []) ∷ [])
    ((pos 500 ∷ pos 300 ∷ pos 100 ∷ pos 60 ∷ []) ∷ (pos 620 ∷ pos 350 ∷ pos 90 ∷ []) ∷ (pos 540 ∷ pos 410 ∷ []) ∷ (pos 690 ∷ []) ∷ []) []

-- ---- the tests

-- two lists hold the same numbers
unfoldable pub same_list : List ℤ → List ℤ → Bool
same_list [] [] = true
same_list [] (y ∷ ys) = false
same_list (x ∷ xs) [] = false
same_list (x ∷ xs) (y ∷ ys) = same x y && same_list xs ys

-- a fraction equals a / b, compared multiplied out
unfoldable pub same_fraction : Fraction → ℤ → ℤ → Bool
same_fraction x a b = same (x.upper *ℤ b) (a *ℤ x.lower)

unfoldable pub all_true : List Bool → Bool
all_true [] = true
all_true (t ∷ ts) = t && all_true ts

-- the refusal number of a forecast of a file with m = 2
unfoldable pub refused : List ℕ → ℕ → ℕ → Bool
refused f method n = eqb (forecast_answer 2 f method 1 12).refusal n

-- the leftovers of IDCL, of a set with m = 3
unfoldable pub left_over3 : TriangleSet → List ℤ → Bool
left_over3 s xs = same_list (take 3 (leftovers 3 s 2)) xs

-- the output of a set with m = 3 under basis 0, whose places held 5
unfoldable pub output3 : TriangleSet → ℕ → ℕ → List ℤ
output3 s method room = output_from 3 s (delays_of 3 s) method 0 (replicate room (pos 5))

-- m = 2: the triangle x, y / z, and d in the places that are no cell
abbrev pub lent_cells : ℤ → ℤ → ℤ → ℤ → List ℤ
lent_cells d x y z = x ∷ y ∷ replicate 18 d ++ z ∷ replicate 379 d

-- the first no of questions 9 to 14 to a set with one count in each row, paid x, y / z and incurred
-- a, b / c
unfoldable pub refused_set : ℕ → ℕ → ℕ → ℤ → ℤ → ℤ → ℕ → ℕ → Bool
refused_set x y z a b c method n =
    let s : TriangleSet =
    record {
      line = 0;
      has_incurred = true;
      counts = lent_cells (pos 0) (pos 1) (pos 0) (pos 1);
      paid = lent_cells (pos 0) (pos x) (pos y) (pos z);
      incurred = lent_cells (pos 0) a b c;
    } in
    eqb (first_no (of_forecast 2 s (delays_of 2 s) method)) n

-- every entry of a forecast, and one past them that keeps its value; leftovers by g = S, by no
-- payments, and by a reserve that rounds away
unfoldable pub forecasts : List Bool
forecasts =
    same_list (output3 negative_set 2 31)
    (pos 0 ∷ pos 0 ∷ pos 0 ∷ pos 0 ∷ pos 0 ∷ pos 0 ∷ pos 7 ∷ pos 0 ∷ less 11 ∷ pos 0 ∷ pos 0 ∷ pos 0 ∷ pos 0 ∷ pos 0
    ∷ pos 120 ∷ less 401 ∷ pos 129 ∷ less 158 ∷ pos 0 ∷ pos 59 ∷ pos 0 ∷ pos 0 ∷ less 99 ∷ less 67 ∷ pos 37 ∷ less 58 ∷ pos 0 ∷ less 3
    ∷ pos 0 ∷ pos 5 ∷ pos 5 ∷ [])
    ∷ same_list (output3 few 0 30)
    (pos 0 ∷ pos 0 ∷ pos 0 ∷ pos 0 ∷ pos 0 ∷ pos 0 ∷ less 3986486473 ∷ pos 0
    ∷ less 2702702691 ∷ pos 0 ∷ pos 0 ∷ pos 0 ∷ pos 0 ∷ pos 0 ∷ less 4707207198 ∷ pos 5563063054
    ∷ less 1901901893 ∷ less 1355105103 ∷ pos 0 ∷ less 2852852840 ∷ pos 0 ∷ pos 0 ∷ less 1558974360 ∷ pos 4266666673
    ∷ less 3282051273 ∷ pos 4294017088 ∷ pos 0 ∷ less 3487179483 ∷ pos 0 ∷ less 2735042725 ∷ [])
    ∷ left_over3 negative_set (pos 50 ∷ pos 0 ∷ pos 0 ∷ []) ∷ left_over3 unpaid (pos 0 ∷ pos 840 ∷ pos 1074 ∷ []) ∷ left_over3 settled (pos 0 ∷ pos 97 ∷ less 28 ∷ [])
    -- demand 3 for year 2 of K: H = 1100, the reserve 440, and the bound 2 + 1100 / (6 × 10^8)
    ∷ same_fraction (H 2 (set_of 2 K).paid 2) (pos 1100) (pos 1) ∷ same_fraction (reserve 2 (set_of 2 K).paid 2) (pos 440) (pos 1)
    ∷ same_fraction (bound 2 (set_of 2 K).paid 2) (pos 12000011) (pos 6000000)
    ∷ []

unfoldable pub refusals : List Bool
refusals =
    -- 3: a kind that the length does not allow, year 0, a cell outside, a spare byte not zero, two
    -- lines of cover, line 6; passed: line 5
    refused (record_of 2 1 0 0 1 ++ record_of 0 1 1 0 0 ++ record_of 0 2 0 0 1 ++ two 1 1 0 1) 0 3 ∷ refused (record_of 0 0 0 0 1 ++ record_of 0 1 1 0 0 ++ record_of 0 2 0 0 1 ++ two 1 1 0 1) 0 3
    ∷ refused (record_of 0 1 0 0 1 ++ record_of 0 2 1 0 0 ++ record_of 0 2 0 0 1 ++ two 1 1 0 1) 0 3 ∷ refused (set K 7 1) 0 3
    ∷ refused (set K 131 1) 0 3 ∷ refused (relined 6 K) 0 3 ∷ refused (relined 5 K) 0 0
    -- 4: a cell twice and another missing; 5: a count of 10,000,001; 6: no incurred
    ∷ refused (two 0 80 20 90 ++ record_of 1 1 0 0 600 ++ record_of 1 1 0 0 600 ++ record_of 1 2 0 0 660) 0 4
    ∷ refused (two 0 80 20 10000001 ++ two 1 600 400 660) 0 5 ∷ refused (two 0 80 20 90 ++ two 1 600 400 660) 1 6
    -- 9: a row without counts; 10: no paid money in row 1
    ∷ refused (two 0 80 20 0 ++ two 1 600 400 660) 0 9 ∷ refused (two 0 80 20 90 ++ two 1 0 0 660) 0 10
    -- 13: A(1) = 0, B(1) = 0, a latest row sum below zero, g(0) = 999,001, g(0) = 5 × 10^9; not
    -- asked under method 0
    ∷ refused (two 0 1 0 1 ++ two 1 1 0 1 ++ two 2 0 1 1) 1 13 ∷ refused_set 1 0 1 (pos 1) (less 1) (pos 1) 1 13 ∷ refused_set 1 0 1 (pos 1) (pos 0) (less 1) 1 13
    ∷ refused_set 1 0 1 (pos 1) (pos 1000) (pos 1) 1 13 ∷ refused_set 1 0 1 (pos 5) (less 4) (pos 1) 1 13 ∷ refused_set 1 0 1 (pos 0) (pos 1) (pos 1) 0 0
    -- passed: g(0) = 10^6, g(0) = 4 × 10^9, a latest row sum of zero
    ∷ refused_set 1 0 1 (pos 1) (pos 999) (pos 1) 1 0 ∷ refused_set 1 0 1 (pos 4) (less 3) (pos 1) 1 0 ∷ refused_set 1 0 1 (pos 1) (pos 0) (pos 0) 1 0
    -- 14: V(2) = 20001 × 10^10 under BDCL, and -14142136 × 14142137 under IDCL; passed: 2 × 10^14,
    -- and -14142135 × 14142136
    ∷ refused_set 20001 0 1 (pos 1) (pos 0) (pos (10 ^ 10)) 1 14 ∷ refused_set 14142136 1 14142136 (pos 1) (pos 0) (pos 0) 2 14
    ∷ refused_set 20000 0 1 (pos 1) (pos 0) (pos (10 ^ 10)) 1 0 ∷ refused_set 14142135 1 14142135 (pos 1) (pos 0) (pos 0) 2 0
    ∷ []

unfoldable pub opened_further : ℕ
unfolding
    opened K relined rows_of negative_set unpaid settled few four same_list same_fraction all_true refused left_over3 output3 refused_set forecasts refusals
    GDown G H reserve bound
    quotient mean_cost factor inflation claim_costs no_claim_costs claim_costs_answer div of_int
    read_answer write_refusal write_output q5_writer q7_writer chained word of_kind file_of
opened_further = 0

pub further_forecasts : T (all_true forecasts)
unfolding opened_further
further_forecasts = tt

pub further_refusals : T (all_true refusals)
unfolding opened_further
further_refusals = tt

-- ---- what `closing` prints for a refusal

-- the text "refused ", the digits d and a newline
abbrev pub told : List ℕ → List ℕ
told d = (114 ∷ 101 ∷ 102 ∷ 117 ∷ 115 ∷ 101 ∷ 100 ∷ 32 ∷ []) ++ d ++ (10 ∷ [])

-- five digits in the first run
pub five_digits : closing_text (48 ∷ 48 ∷ 48 ∷ 48 ∷ asked) ≡ told (49 ∷ [])
unfolding opened_further
five_digits = refl
