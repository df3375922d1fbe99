-- More examples of our own: the back-test, room for a forecast and for a file. The values are those
-- of an independent calculation with big numbers.
use Rattle.std.specs.Prelude.{◌^◌, ◌≡◌, refl, true, false, List, [], ◌∷◌, ◌++◌, ℤ, pos, replicate}
use Rattle.model.specs.Questions.{q8}
use Rattle.model.specs.Calls.{write_refusal, write_output, refused_forecast, forecast_answer, forecast_output, accepted_back_test, refused_back_test, back_test_of, back_test_answer}
use Rattle.model.specs.Examples.{two}
use Rattle.model.specs.Further.{K, relined, less, of_rows, four, lent_cells, opened_further}
use Rattle.model.specs.declared.TriangleSet.{TriangleSet}

-- ---- the back-test

-- m = 5: with cut 2 the errors are 30 and -97 in calendar year 1, and 27 in year 2
unfoldable pub five : TriangleSet
five =
    of_rows
    ((pos 50 ∷ pos 30 ∷ pos 15 ∷ pos 5 ∷ pos 2 ∷ []) ∷ (pos 60 ∷ pos 33 ∷ pos 20 ∷ pos 7 ∷ []) ∷ (pos 55 ∷ pos 40 ∷ pos 18 ∷ []) ∷ (pos 70 ∷ pos 44 ∷ []) ∷ (pos 66 ∷ []) ∷ [])
    ((pos 500 ∷ pos 300 ∷ pos 100 ∷ pos 60 ∷ pos 10 ∷ []) ∷ (pos 620 ∷ pos 350 ∷ pos 90 ∷ pos 40 ∷ []) ∷ (pos 540 ∷ pos 410 ∷ pos 80 ∷ []) ∷ (pos 690 ∷ pos 380 ∷ []) ∷ (pos 700 ∷ []) ∷ []) []

-- three cells, and all three errors differ; of m = 4 with cut 1 two cells, with cut 2 one
pub cut_sets :
    (back_test_of 5 five 2 0 0 ≡ accepted_back_test 4 3 154 94 40) × (back_test_of 4 four 1 0 0 ≡ accepted_back_test 4 2 127 67 67)
    × (back_test_of 4 four 2 0 0 ≡ accepted_back_test 4 1 22 22 22)
unfolding opened_further five
cut_sets = (refl, refl, refl)

-- 8: of m = 4 the cut may be 2, but neither 3 nor 0; and a file of m = 2, which has no cut
pub cuts : (q8 4 2 ≡ true) × (q8 4 3 ≡ false) × (q8 4 0 ≡ false) × (back_test_answer 2 K 1 0 0 ≡ refused_back_test 8)
unfolding opened_further
cuts = (refl, refl, refl, refl)

-- ---- the forecast

-- 7: room for 11 of K's 12 entries, which keep their values
pub short : (forecast_answer 2 K 0 1 11 ≡ refused_forecast 7) × (forecast_output 2 K 0 1 (replicate 11 (pos 5)) ≡ replicate 11 (pos 5))
unfolding opened_further
short = (refl, refl)

-- ---- the writer

-- the triangle x, y / z of m = 2: other places hold a number that no value may be
abbrev given : ℤ → ℤ → ℤ → List ℤ
given x y z = lent_cells (less (2 ^ 63)) x y z

-- 02, Job 2: the file of K without incurred, by kind, year and delay; and Job 7: each record has
-- the line
pub written_order :
    write_output 2 3 false (given (pos 80) (pos 20) (pos 90)) (given (pos 600) (pos 400) (pos 660)) (given (pos 900) (pos 100) (pos 1080)) (replicate 96 7)
    ≡ relined 3 (two 0 80 20 90 ++ two 1 600 400 660)
unfolding opened_further
written_order = refl

-- m, the line and a value out of range, and no room: 1 comes before 3, and 3 before 5 and 7
pub unwritten : (write_refusal 1 6 false (given (less 1) (pos 20) (pos 90)) [] [] 0 ≡ 1) × (write_refusal 2 6 false (given (less 1) (pos 20) (pos 90)) [] [] 0 ≡ 3)
unfolding opened_further
unwritten = (refl, refl)
