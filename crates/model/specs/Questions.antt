-- 01, "The gatekeeper's questions": each over what it asks about, an answer being true for yes.
use Rattle.std.specs.Prelude.{ℕ, suc, ◌+◌, ◌-◌, ◌*◌, ◌^◌, Bool, true, false, ◌&&◌, ◌||◌, not, cond, List, [], ◌∷◌, ◌++◌, ltb, leb, eqb, ℤ, pos, neg_ℤ, length}
use Rattle.std.specs.Int.Signed.{le_z, lt_z}
use Rattle.model.specs.Lists.{every, at}
use Rattle.model.specs.Records.{inside, cell, kind_at, year_at, delay_at, line_at, line_of, spares_zero, value_at, records, copies, set_length, has_incurred, is_line, in_range}
use Rattle.model.specs.Shares.{latest, A, B, g, b_list}
use Rattle.model.specs.Delays.{solves_at}
use Rattle.model.specs.RowBases.{row_base}
use Rattle.model.specs.Cells.{size}
use Rattle.model.specs.Dates.{is_date, day_number}
use Rattle.model.specs.Cash.{year_start}
use Rattle.model.specs.declared.TriangleSet.{TriangleSet}
use Rattle.model.specs.declared.Date.{Date}

-- lo <= x <= hi
abbrev pub within : ℤ → ℤ → ℤ → Bool
within lo hi x = le_z lo x && le_z x hi

-- ---- of a file

-- 1: m is from 2 to 20
unfoldable pub q1 : ℕ → Bool
q1 m = leb 2 m && leb m 20

-- 2: the length is that of a set with incurred or without
unfoldable pub q2 : ℕ → List ℕ → Bool
q2 m f = eqb (length f) (set_length m false) || eqb (length f) (set_length m true)

-- the number of kinds that a set has
unfoldable pub kinds : Bool → ℕ
kinds has_incurred = cond has_incurred 3 2

-- 3, of record k: its kind is one of the set's, its cell inside the triangle, its line (02, Job 7)
-- one that there is and the file's, its spare bytes zero
unfoldable pub record_ok : ℕ → List ℕ → ℕ → Bool
record_ok m f k =
    ltb (kind_at f k) (kinds (has_incurred m f)) && inside m (year_at f k) (delay_at f k)
    && (is_line (line_at f k) && eqb (line_at f k) (line_of f)) && spares_zero f k

-- 3: of every record
unfoldable pub q3 : ℕ → List ℕ → Bool
q3 m f = every (records f) (record_ok m f)

-- every cell of a triangle of size m: i = k + 1, and j from 0 to m - i
unfoldable pub each_cell : ℕ → (ℕ → ℕ → Bool) → Bool
each_cell m p = every m (λ k. every (m - k) (λ j. p (suc k) j))

-- 4: each cell of each kind has one record
unfoldable pub q4 : ℕ → List ℕ → Bool
q4 m f = every (kinds (has_incurred m f)) (λ t. each_cell m (λ i j. eqb (copies f t i j) 1))

-- 5: each record's value is in the range of its kind
unfoldable pub q5 : ℕ → List ℕ → Bool
q5 m f = every (records f) (λ k. in_range (kind_at f k) (value_at f k))

-- 5 for the writer: each cell of the set's triangles; other places are not looked at
unfoldable pub q5_writer : ℕ → Bool → List ℤ → List ℤ → List ℤ → Bool
q5_writer m has_incurred c d e =
    each_cell m (λ i j. in_range 0 (cell c i j)) && each_cell m (λ i j. in_range 1 (cell d i j)) && (not has_incurred || each_cell m (λ i j. in_range 2 (cell e i j)))

-- ---- of what a caller chooses

-- methods 1 and 2 go by incurred
abbrev pub uses_incurred : ℕ → Bool
uses_incurred method = eqb method 1 || eqb method 2

-- 6: there is such a method and such a basis, and incurred is there for a method that uses it
unfoldable pub q6 : Bool → ℕ → ℕ → Bool
q6 has_incurred method basis = leb method 2 && leb basis 1 && (not (uses_incurred method) || has_incurred)

-- 7: the output has room for every entry
unfoldable pub q7 : ℕ → ℕ → Bool
q7 m room = leb (size m) room

-- 7 for the writer: for every byte of the set
unfoldable pub q7_writer : ℕ → Bool → ℕ → Bool
q7_writer m has_incurred room = leb (set_length m has_incurred) room

-- 15 (02, Job 1), in place of 7 for the closing page: it has room for 136 × m bytes
unfoldable pub q15 : ℕ → ℕ → Bool
q15 m room = leb (136 * m) room

-- 8, of a back-test: the cut c is from 1 to m - 2
unfoldable pub q8 : ℕ → ℕ → Bool
q8 m c = leb 1 c && leb (c + 2) m

-- 19 (02, Job 5), of the valuation date: there is such a date, of the years 1900 to 2199
unfoldable pub is_valuation : Date → Bool
is_valuation v = is_date v && leb 1900 v.year && leb v.year 2199

-- of a window from a to b: a is not before the valuation date v, nor b before a; a lies in one of
-- the 2m - 2 forecast years, and b at most at the day after them
unfoldable pub in_years : ℕ → Date → Date → Date → Bool
in_years m v a b =
    let end = year_start v (2 * m - 2) in
    leb (day_number v) (day_number a) && leb (day_number a) (day_number b) && ltb (day_number a) end && leb (day_number b) end

-- 19, of all three dates
unfoldable pub q19 : ℕ → Date → Date → Date → Bool
q19 m v a b = is_valuation v && is_date a && is_date b && in_years m v a b

-- ---- of triangles

-- 9, of counts: each row's sum is above zero
unfoldable pub q9 : ℕ → List ℤ → Bool
q9 m t = every m (λ k. lt_z (pos 0) (latest m t (suc k)))

-- 10, of paid: every B(j) is above zero
unfoldable pub q10 : ℕ → List ℤ → Bool
q10 m t = every (m - 1) (λ k. lt_z (pos 0) (B m t (suc k)))

-- 11, of counts and of paid, each by itself: g(0) is at least 10^6
unfoldable pub q11 : ℕ → List ℤ → Bool
q11 m t = le_z (pos (10 ^ 6)) (g m t 0)

-- 12, of delays: each is within 8 × 10^9 on either side of zero
unfoldable pub q12 : ℕ → List ℤ → Bool
q12 m p = every m (λ l. within (neg_ℤ (pos (8 * 10 ^ 9))) (pos (8 * 10 ^ 9)) (at p l))

-- 20 (02, Job 6), in place of 12 for given delays: they are m in number, each is within the range
-- of 12, and together they solve each line of the system of the shares b of counts and q of paid
unfoldable pub q20 : ℕ → List ℤ → List ℤ → List ℤ → Bool
q20 m b q p = eqb (length p) m && q12 m p && every m (solves_at b q p)

-- 13, of incurred: A(j) and B(j) above zero, no latest row sum negative, g(j) from 10^6 to 4 × 10^9
unfoldable pub q13 : ℕ → List ℤ → Bool
q13 m t =
    every (m - 1) (λ k. lt_z (pos 0) (A m t (suc k)) && lt_z (pos 0) (B m t (suc k)))
    && every m (λ k. le_z (pos 0) (latest m t (suc k)))
    && every m (λ j. within (pos (10 ^ 6)) (pos (4 * 10 ^ 9)) (g m t j))

-- 14: every V(i) is within 2 × 10^14 on either side of zero
unfoldable pub q14 : ℕ → TriangleSet → ℕ → Bool
q14 m s method = every m (λ k. within (neg_ℤ (pos (2 * 10 ^ 14))) (pos (2 * 10 ^ 14)) (row_base m s method (suc k)))

-- ---- lists of questions, in the order in which they are asked

-- a question's number and its answer
abbrev pub Question : Type 0
Question = ℕ × Bool

-- the number of the first no, or 0 where each answer is yes
unfoldable pub first_no : List Question → ℕ
first_no [] = 0
first_no (q ∷ qs) = elim q.1 [ true ↦ first_no qs | false ↦ q.0 ]

-- 3 to 5, of the records of a file
unfoldable pub of_records : ℕ → List ℕ → List Question
of_records m f = (3, q3 m f) ∷ (4, q4 m f) ∷ (5, q5 m f) ∷ []

-- 1 to 5, of a file
unfoldable pub of_file : ℕ → List ℕ → List Question
of_file m f = (1, q1 m) ∷ (2, q2 m f) ∷ of_records m f

-- 9 to 11, of counts c and paid d
unfoldable pub of_shares : ℕ → List ℤ → List ℤ → List Question
of_shares m c d = (9, q9 m c) ∷ (10, q10 m d) ∷ (11, q11 m c) ∷ (11, q11 m d) ∷ []

-- 12, of delays
unfoldable pub of_delays : ℕ → List ℤ → List Question
of_delays m p = (12, q12 m p) ∷ []

-- 20, of given delays p, with the shares of counts c and paid d
unfoldable pub of_given_delays : ℕ → List ℤ → List ℤ → List ℤ → List Question
of_given_delays m c d p = (20, q20 m (b_list m c) (b_list m d) p) ∷ []

-- 13 and 14, of a set: asked under methods 1 and 2
unfoldable pub of_method : ℕ → TriangleSet → ℕ → List Question
of_method m s method = cond (uses_incurred method) ((13, q13 m s.incurred) ∷ (14, q14 m s method) ∷ []) []

-- 9 to 14, of a set and its delays
unfoldable pub of_forecast : ℕ → TriangleSet → List ℤ → ℕ → List Question
of_forecast m s p method = of_shares m s.counts s.paid ++ of_delays m p ++ of_method m s method

-- the same of a set and given delays: 20 where 12 stood
unfoldable pub of_forecast_with : ℕ → TriangleSet → List ℤ → ℕ → List Question
of_forecast_with m s p method = of_shares m s.counts s.paid ++ of_given_delays m s.counts s.paid p ++ of_method m s method
