-- Examples of the line of cover (02, Job 7): K and 01's set of the back-test on lines 1 to 6. Their
-- amounts are those of line 0. Assumes nothing.
use Rattle.std.specs.Prelude.{ℕ, ◌-◌, ◌^◌, ◌≡◌, refl, true, false, List, [], ◌∷◌, ◌++◌, ℤ, pos, take, replicate, set}
use Rattle.model.specs.Records.{given_set}
use Rattle.model.specs.Calls.{zeros, accepted_read, refused_read, read_answer, write_refusal, refused_shares, shares_answer, accepted_delays, delays_answer, accepted_check, refused_check, check_delays_answer, accepted_forecast, refused_forecast, forecast_answer, forecast_output, forecast_with_answer, claim_costs_answer, accepted_back_test, refused_back_test, back_test_answer, file_text}
use Rattle.model.specs.Examples as Examples
use Rattle.model.specs.Examples.{Example, row_of, two, past}
use Rattle.model.specs.Further.{K, relined, less, lent_cells, opened_further}
use Rattle.examples.specs.GivenDelays.{pair, opened_given}

-- ---- the reader

-- K on line 5
pub read_line : read_answer 2 (relined 5 K) ≡ accepted_read (given_set 2 5 true (lent_cells (pos 3) (pos 80) (pos 20) (pos 90)) (lent_cells (pos 3) (pos 600) (pos 400) (pos 660)) (lent_cells (pos 3) (pos 900) (pos 100) (pos 1080)))
unfolding opened_further
read_line = refl

-- 3: line 6; the first record, or the last, on another line than the others; a byte after the line
-- that is not zero
pub wrong_lines :
    (read_answer 2 (relined 6 K) ≡ refused_read 3) × (read_answer 2 (set K 3 1) ≡ refused_read 3) × (read_answer 2 (set (relined 5 K) 131 4) ≡ refused_read 3)
    × (read_answer 2 (set (relined 5 K) 4 1) ≡ refused_read 3)
unfolding opened_further
wrong_lines = (refl, refl, refl, refl)

-- 2 comes before it, and 4 and 5 after it
pub line_in_order :
    (read_answer 2 (take 128 (relined 6 K)) ≡ refused_read 2) × (read_answer 2 (relined 6 (two 0 80 20 10000001 ++ two 1 600 400 660)) ≡ refused_read 3)
    × (read_answer 2 (relined 6 (two 0 80 20 90 ++ row_of 1 1 0 (600 ∷ []) ++ row_of 1 1 0 (600 ∷ []) ++ row_of 1 2 0 (660 ∷ []))) ≡ refused_read 3)
unfolding opened_further
line_in_order = (refl, refl, refl)

-- ---- the writer

-- its refusal of K's counts and paid with x as the count of year 2, on a line and with room for n
-- bytes
abbrev wrote : ℕ → ℕ → ℤ → ℕ → ℕ
wrote m line x n = write_refusal m line false (lent_cells (pos 0) (pos 80) (pos 20) x) (lent_cells (pos 0) (pos 600) (pos 400) (pos 660)) (zeros 400) n

-- 3: line 6 and one far above; and on line 5, 5 and 7
pub written_lines :
    (wrote 2 6 (pos 90) 96 ≡ 3) × (wrote 2 (2 ^ 64 - 1) (pos 90) 96 ≡ 3) × (wrote 2 5 (less 1) 96 ≡ 5) × (wrote 2 5 (pos 90) 95 ≡ 7) × (wrote 2 5 (pos 90) 96 ≡ 0)
unfolding opened_further
written_lines = (refl, refl, refl, refl, refl)

-- ---- the other calls

-- the line of an accepted file, and 0 beside a refusal
pub ladder_lines :
    ((shares_answer 2 (relined 4 K)).line ≡ 4) × (shares_answer 2 (relined 4 (two 0 80 20 0 ++ two 1 600 400 660)) ≡ refused_shares 9)
    × (delays_answer 2 (relined 3 K) ≡ accepted_delays 3 (pair 750000000 312500000 ++ replicate 18 (pos 0)))
    × (check_delays_answer 2 (relined 2 K) (pair 750000000 312500000) ≡ accepted_check 2) × (check_delays_answer 2 (relined 2 K) [] ≡ refused_check 20)
    × ((claim_costs_answer 2 (relined 1 K)).line ≡ 1)
unfolding opened_given
ladder_lines = (refl, refl, refl, refl, refl, refl)

pub forecast_lines :
    (forecast_answer 2 (relined 5 K) 0 1 12 ≡ accepted_forecast 5 (zeros 20)) × (forecast_answer 2 (relined 5 K) 0 1 11 ≡ refused_forecast 7)
    × (forecast_with_answer 2 (relined 4 K) 0 1 (pair 750000000 312500000) 12 ≡ accepted_forecast 4 (zeros 20))
unfolding opened_given
forecast_lines = (refl, refl, refl)

-- the file of 01's set of the back-test
abbrev file_in : Example → List ℕ
file_in (Examples.set m f) = f

pub test_lines : (back_test_answer 3 (relined 3 (file_in past)) 1 0 1 ≡ accepted_back_test 3 1 10 10 10) × (back_test_answer 3 (relined 3 (file_in past)) 2 0 1 ≡ refused_back_test 8)
unfolding opened_further
test_lines = (refl, refl)

-- the amounts are the same on every line, and so is what `closing` prints
pub same_amounts : (forecast_output 2 (relined 5 K) 0 1 (replicate 13 (pos 5)) ≡ forecast_output 2 K 0 1 (replicate 13 (pos 5))) × (file_text 2 (relined 5 K) 0 1 ≡ file_text 2 K 0 1)
unfolding opened_further
same_amounts = (refl, refl)
