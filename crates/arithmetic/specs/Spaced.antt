-- Numbers of a list that stand evenly apart.
use Rattle.std.specs.Prelude.{ℕ, ◌+◌, ◌*◌, ◌≤◌, ◌<◌, List, length, ℤ, FitsSigned}
use Rattle.std.specs.Int.{w64}
use Rattle.integers.specs.Sums.{sum}
use Rattle.model.specs.Lists.{at}

-- n numbers that stand d places apart, from place a on, lie within the list, and no running total
-- of them leaves 64 bits
pub record Spaced (a d n : ℕ) (xs : List ℤ) : Type 0 where
  pub places : (k : ℕ) → k < n → a + d * k < length xs
  pub fits : (k : ℕ) → k ≤ n → FitsSigned w64 (sum k (λ i. at xs (a + d * i)))
