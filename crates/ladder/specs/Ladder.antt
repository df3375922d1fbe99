-- The chain ladder from the lists of a triangle's sums, and what its functions ask of these.
use Rattle.std.specs.Prelude.{ℕ, zero, suc, ◌-◌, ◌*◌, ◌^◌, ◌≤◌, ◌<◌, Bool, true, false, cond, List, ℤ, pos, nat_abs, ◌-ℤ◌, ◌*ℤ◌, ◌≡◌, Option, Some, None, MatchOption}
use Rattle.integers.specs.Parts.{◌⩽◌, ◌⋖◌}
use Rattle.model.specs.Lists.{at, listed, every}
use Rattle.model.specs.Rounding.{S, r}
use Rattle.model.specs.Shares.{g_list}
use Rattle.model.specs.Questions.{within}
use Rattle.ladder.specs.Sums.{latests}

-- a cumulative share is from 10^6 to 4 × 10^9
abbrev pub bounded : ℤ → Bool
bounded z = within (pos (10 ^ 6)) (pos (4 * 10 ^ 9)) z

-- the share, where it is
unfoldable pub share_in : ℤ → Option ℤ
share_in z = cond (bounded z) (Some z) None

-- n steps down from g(m-1), where a and b hold A(j) and B(j) at place j - 1
unfoldable pub steps_down : ℕ → List ℤ → List ℤ → ℕ → ℤ
steps_down m a b zero = S
steps_down m a b (suc n) = r (steps_down m a b n *ℤ at a (m - 1 - suc n)) (at b (m - 1 - suc n))

-- g(j)
unfoldable pub g_of : ℕ → List ℤ → List ℤ → ℕ → ℤ
g_of m a b j = steps_down m a b (m - 1 - j)

-- the list of the g(j), where each is in its bounds
abbrev pub Bounded : ℕ → (ℕ → ℤ) → Option (List ℤ) → Type 0
Bounded m g given =
    MatchOption given (every m (λ j. bounded (g j)) ≡ false) (λ list. (every m (λ j. bounded (g j)) ≡ true) × (list ≡ listed 20 m g (pos 0)))

-- the sums that the steps divide: at most 4 × 10^12, and those divided by above zero
pub record Steps (m : ℕ) (a b : List ℤ) : Type 0 where
  pub some : 1 ≤ m
  pub few : m ≤ 20
  pub over : (k : ℕ) → k < m - 1 → nat_abs (at a k) ≤ 4 * 10 ^ 12
  pub under : (k : ℕ) → k < m - 1 → (pos 0 ⋖ at b k) × (nat_abs (at b k) ≤ 4 * 10 ^ 12)

-- the share of delay k, from the cumulative shares
unfoldable pub difference : List ℤ → ℕ → ℤ
difference g zero = at g 0
difference g (suc k) = at g (suc k) -ℤ at g k

-- the ultimate of year k + 1, from the latest sums and the cumulative shares
unfoldable pub grown : ℕ → List ℤ → List ℤ → ℕ → ℤ
grown m latest g k = r (at latest k *ℤ S) (at g (m - suc k))

-- cumulative shares in their bounds
pub record InBounds (m : ℕ) (g : List ℤ) : Type 0 where
  pub some : 1 ≤ m
  pub few : m ≤ 20
  pub shares : (k : ℕ) → k < m → (pos (10 ^ 6) ⩽ at g k) × (at g k ⩽ pos (4 * 10 ^ 9))

-- and latest sums of at most 2 × 10^11
pub record Ready (m : ℕ) (latest g : List ℤ) : Type 0 where
  pub bounds : InBounds m g
  pub sums : (k : ℕ) → k < m → nat_abs (at latest k) ≤ 2 * 10 ^ 11

-- the latest sums and the cumulative shares of a triangle t
pub record Ladder (m : ℕ) (t latest g : List ℤ) : Type 0 where
  pub latest_is : latest ≡ latests m t
  pub g_is : g ≡ g_list m t
