-- A record's key: where its kind and cell stand in three lists of 400 places, one after the other.
use Rattle.std.specs.Prelude.{◌≡◌, ℕ, ◌+◌, ◌-◌, ◌*◌, ◌<◌, Bool, cond, List, [], ◌∷◌, eqb, ℤ, pos}
use Rattle.integers.specs.Sums.{sum}
use Rattle.model.specs.Lists.{at, every, count}
use Rattle.model.specs.Records.{kind_at, year_at, delay_at, value_at}
use Rattle.model.specs.Questions.{first_no}
use Rattle.records.specs.OneRecord.{well_formed, ranged}

unfoldable pub key_at : List ℕ → ℕ → ℕ
key_at f k = 400 * kind_at f k + (20 * (year_at f k - 1) + delay_at f k)

-- how many of the first n records have the key q
unfoldable pub key_count : List ℕ → ℕ → ℕ → ℕ
key_count f n q = count n (λ k. eqb (key_at f k) q)

-- the sum of their values
unfoldable pub key_sum : List ℕ → ℕ → ℕ → ℤ
key_sum f n q = sum n (λ k. cond (eqb (key_at f k) q) (value_at f k) (pos 0))

-- record k is the first of its key
unfoldable pub fresh : List ℕ → ℕ → Bool
fresh f k = eqb (key_count f k (key_at f k)) 0

-- questions 3 to 5 of the first n records, by their keys, where the length allows u kinds and the
-- file's line is v; and where each got a yes the value of each key
pub record RecordsRead (m u v : ℕ) (f : List ℕ) (n r : ℕ) (set : List ℤ) : Type 0 where
  pub result : r ≡ first_no ((3, every n (well_formed m u v f)) ∷ (4, every n (fresh f)) ∷ (5, every n (ranged f)) ∷ [])
  pub values : r ≡ 0 → (q : ℕ) → q < 1200 → at set q ≡ key_sum f n q
