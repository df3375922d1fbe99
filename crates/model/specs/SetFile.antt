-- 02, Job 2: the file of a set. A record is that of 01, Triangle records, with the line of cover of
-- 02, Job 7.
use Rattle.std.specs.Prelude.{ℕ, zero, suc, ◌-◌, ◌/◌, ◌%◌, ◌^◌, List, [], ◌∷◌, ℤ, pos, negsuc}
use Rattle.model.specs.Lists.{chained}
use Rattle.model.specs.Records.{cell}
use Rattle.model.specs.Questions.{kinds}
use Rattle.model.specs.declared.TriangleSet.{TriangleSet}

-- a signed number as a word: below zero, 2^64 more
unfoldable pub word : ℤ → ℕ
word (pos n) = n
word (negsuc n) = 2 ^ 64 - suc n

-- n bytes of a number, the lowest in front
unfoldable pub bytes : ℕ → ℕ → List ℕ
bytes zero x = []
bytes (suc n) x = (x % 256) ∷ bytes n (x / 256)

-- the record of kind t, cell (i,j) and a line: four unused bytes, and the word x of its value
unfoldable pub record_of : ℕ → ℕ → ℕ → ℕ → ℕ → List ℕ
record_of t i j line x = t ∷ i ∷ j ∷ line ∷ 0 ∷ 0 ∷ 0 ∷ 0 ∷ bytes 8 x

-- the triangle of kind t
unfoldable pub of_kind : TriangleSet → ℕ → List ℤ
of_kind s zero = s.counts
of_kind s (suc zero) = s.paid
of_kind s (suc (suc t)) = s.incurred

-- the file of a set: a record for each cell, by kind t, then accident year i = k + 1, then delay j
unfoldable pub file_of : ℕ → TriangleSet → List ℕ
file_of m s =
    chained (kinds s.has_incurred) (λ t. chained m (λ k. chained (m - k) (λ j. record_of t (suc k) j s.line (word (cell (of_kind s t) (suc k) j)))))
