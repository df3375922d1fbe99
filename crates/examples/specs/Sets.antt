-- Examples of the reader and of the writer. Assumes nothing.
use Rattle.std.specs.Prelude.{ℕ, ◌-◌, ◌^◌, ◌≡◌, refl, Bool, true, false, ◌&&◌, List, [], ◌∷◌, ◌++◌, T, ℤ, pos, take, replicate}
use Rattle.model.specs.Records.{given_set, set_of}
use Rattle.model.specs.Questions.{q1}
use Rattle.model.specs.SetFile.{word, record_of, file_of}
use Rattle.model.specs.Calls.{accepted_read, read_answer, refused_read, write_refusal, write_output}
use Rattle.model.specs.Examples.{row_of, two}
use Rattle.model.specs.Further.{K, relined, negative_set, less, lent_cells, refused, opened_further}

-- ---- the reader

-- the reader hands back what the writer was given: numbers past the cells aren't read
pub given : read_answer 2 K ≡ accepted_read (given_set 2 0 true (pos 80 ∷ pos 20 ∷ replicate 18 (pos 3) ++ pos 90 ∷ []) (pos 600 ∷ pos 400 ∷ replicate 18 (pos 3) ++ pos 660 ∷ []) (pos 900 ∷ pos 100 ∷ replicate 18 (pos 3) ++ pos 1080 ∷ []))
unfolding opened_further
given = refl

-- 1: the least m and the highest, and those past them
pub sizes : (q1 2 ≡ true) × (q1 20 ≡ true) × (q1 1 ≡ false) × (q1 21 ≡ false)
unfolding opened_further
sizes = (refl, refl, refl, refl)

-- a file of two records that m = 1 would have, and K with m = 21
pub wrong_m : (read_answer 1 (record_of 0 1 0 0 1 ++ record_of 1 1 0 0 1) ≡ refused_read 1) × (read_answer 21 K ≡ refused_read 1)
unfolding opened_further
wrong_m = (refl, refl)

-- 2: K without its last byte, without its last record, and no file
pub wrong_lengths : T (refused (take 143 K) 0 2 && refused (take 128 K) 0 2 && refused [] 0 2)
unfolding opened_further
wrong_lengths = tt

-- ---- the writer

-- the triangle x, y / z of m = 2: other places hold a number that no value may be
abbrev lent : ℤ → ℤ → ℤ → List ℤ
lent x y z = lent_cells (less (2 ^ 63)) x y z

-- the writer's refusal of m and K's triangles, with x, y and z as the cells of year 2 and room for
-- n bytes
abbrev wrote : ℕ → Bool → ℤ → ℤ → ℤ → ℕ → ℕ
wrote m there x y z n = write_refusal m 0 there (lent (pos 80) (pos 20) x) (lent (pos 600) (pos 400) y) (lent (pos 900) (pos 100) z) n

-- 02, Job 2: the bytes past the file stay, and so do all where there is room for all but one
abbrev wrote_into : ℕ → List ℕ
wrote_into n = write_output 2 0 true (lent (pos 80) (pos 20) (pos 90)) (lent (pos 600) (pos 400) (pos 660)) (lent (pos 900) (pos 100) (pos 1080)) (replicate n 7)

pub outputs : (wrote_into 146 ≡ K ++ (7 ∷ 7 ∷ [])) × (wrote_into 143 ≡ replicate 143 7)
unfolding opened_further
outputs = (refl, refl)

-- accepted with just the room of the set, with incurred and without
pub written : (wrote 2 true (pos 90) (pos 660) (pos 1080) 144 ≡ 0) × (wrote 2 false (pos 90) (pos 660) (pos 1080) 96 ≡ 0)
unfolding opened_further
written = (refl, refl)

-- 1: m = 1 and m = 21
pub unwritten_1 : (wrote 1 true (pos 90) (pos 660) (pos 1080) 144 ≡ 1) × (wrote 21 true (pos 90) (pos 660) (pos 1080) (2 ^ 20) ≡ 1)
unfolding opened_further
unwritten_1 = (refl, refl)

-- 5: each kind past its range; incurred that is not there is not looked at
pub unwritten_5 :
    (wrote 2 true (pos 10000001) (pos 660) (pos 1080) 144 ≡ 5) × (wrote 2 true (pos 90) (less 1) (pos 1080) 144 ≡ 5)
    × (wrote 2 true (pos 90) (pos 660) (less 10000000001) 144 ≡ 5) × (wrote 2 false (pos 90) (pos 660) (less 10000000001) 96 ≡ 0)
unfolding opened_further
unwritten_5 = (refl, refl, refl, refl)

-- 7: room for all but one byte
pub unwritten_7 : (wrote 2 true (pos 90) (pos 660) (pos 1080) 143 ≡ 7) × (wrote 2 false (pos 90) (pos 660) (pos 1080) 95 ≡ 7)
unfolding opened_further
unwritten_7 = (refl, refl)

-- -n as the 64 bits of a value
abbrev minus : ℕ → ℕ
minus n = 2 ^ 64 - n

-- the file of `negative_set`, m = 3
unfoldable pub negative : List ℕ
negative =
    row_of 0 1 0 (80 ∷ 20 ∷ 10 ∷ []) ++ row_of 0 2 0 (90 ∷ 25 ∷ []) ++ row_of 0 3 0 (100 ∷ [])
    ++ row_of 1 1 0 (600 ∷ 400 ∷ 50 ∷ []) ++ row_of 1 2 0 (660 ∷ 430 ∷ []) ++ row_of 1 3 0 (700 ∷ [])
    ++ row_of 2 1 0 (1500 ∷ minus 300 ∷ minus 100 ∷ []) ++ row_of 2 2 0 (1500 ∷ minus 600 ∷ []) ++ row_of 2 3 0 (800 ∷ [])

-- a file of m = 3 in that order, as its set's file, which is on line 4, and read and written; K's
-- records in another one, read and written
pub rewritten :
    (file_of 3 negative_set ≡ relined 4 negative) × (file_of 3 (set_of 3 negative) ≡ negative)
    × (file_of 2 (set_of 2 (two 2 900 100 1080 ++ record_of 1 2 0 0 660 ++ record_of 0 1 1 0 20 ++ record_of 0 1 0 0 80 ++ record_of 1 1 1 0 400 ++ record_of 0 2 0 0 90 ++ record_of 1 1 0 0 600)) ≡ K)
unfolding opened_further negative
rewritten = (refl, refl, refl)

-- byte by byte: incurred of -2 in year 1 at delay 1 on line 5, and 10^10 paid in year 2
pub record_bytes_lem :
    (record_of 2 1 1 5 (word (less 2)) ≡ 2 ∷ 1 ∷ 1 ∷ 5 ∷ 0 ∷ 0 ∷ 0 ∷ 0 ∷ 254 ∷ 255 ∷ 255 ∷ 255 ∷ 255 ∷ 255 ∷ 255 ∷ 255 ∷ [])
    × (record_of 1 2 0 0 (word (pos (10 ^ 10))) ≡ 1 ∷ 2 ∷ 0 ∷ 0 ∷ 0 ∷ 0 ∷ 0 ∷ 0 ∷ 0 ∷ 228 ∷ 11 ∷ 84 ∷ 2 ∷ 0 ∷ 0 ∷ 0 ∷ [])
unfolding opened_further
record_bytes_lem = (refl, refl)
