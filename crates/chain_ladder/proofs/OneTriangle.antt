-- One triangle t of a set, on the way from its sums through its cumulative shares to its shares and
-- ultimates. Assumes nothing.
use Rattle.std.proofs.Common.{◌≡◌, List, Option, Some, ℕ, ◌^◌, ◌≤◌, ◌<◌, ℤ, pos}
use Rattle.integers.specs.Parts.{◌⋖◌}
use Rattle.model.specs.Shares.{B, g}
use Rattle.ladder.specs.Sums.{Small, latests, a_sums, b_sums}
use Rattle.ladder.specs.Ladder.{Bounded, Steps, Ready, g_of}
use Rattle.ladder.specs.Ladder.{Ladder}
use Rattle.ladder.specs.LadderLaws.{steps, ready, bounds_are, list_is, ladder_ready}

-- the lists of its sums
pub record Summed (m : ℕ) (t latest a b : List ℤ) : Type 0 where
  pub some : 1 ≤ m
  pub small : Small m (10 ^ 10) t
  pub latest_is : latest ≡ latests m t
  pub a_is : a ≡ a_sums m t
  pub b_is : b ≡ b_sums m t

module _ {m : ℕ} {t latest a b : List ℤ} (made : Summed m t latest a b) where
  pub steps_of : ((j : ℕ) → 1 ≤ j → j < m → pos 0 ⋖ B m t j) → Steps m a b
  steps_of columns = rw (made.a_is, made.b_is) (steps m t made.some made.small columns)

  pub bounded_of : (given : Option (List ℤ)) → Bounded m (g_of m a b) given → Bounded m (g m t) given
  bounded_of given h = bounds_are m t made.some made.small given (rw (made.a_is, made.b_is) at h)

  module _ {list : List ℤ} (shares : Bounded m (g_of m a b) (Some list)) where
    pub ladder_of : Ladder m t latest list
    ladder_of = record { latest_is = made.latest_is; g_is = list_is m t made.some made.small list (rw (made.a_is, made.b_is) at shares) }

    pub ready_of : Ready m latest list
    ready_of = ladder_ready ladder_of (ready m t made.some made.small (bounded_of (Some list) shares).0)
