-- What `solve` and `checked` hand back of the shares b and q of a set of size m, and what they ask
-- of them.
use Rattle.std.specs.Prelude.{ℕ, suc, ◌+◌, ◌-◌, ◌*◌, ◌^◌, ◌≤◌, ◌<◌, ◌≡◌, Bool, cond, Option, Some, None, List, ℤ, pos, neg_ℤ, nat_abs, ◌*ℤ◌}
use Rattle.integers.specs.Parts.{◌⩽◌, ◌⋖◌}
use Rattle.integers.specs.Sums.{sum}
use Rattle.model.specs.Lists.{at, listed}
use Rattle.model.specs.Rounding.{S}
use Rattle.model.specs.Delays.{delays}
use Rattle.model.specs.Questions.{within, q12, q20}

-- the sum of b(k) × p(l-k) for k = first to l
unfoldable pub weighed_sum : List ℤ → List ℤ → ℕ → ℕ → ℤ
weighed_sum b p first l = sum (suc l - first) (λ k. at b (first + k) *ℤ at p (l - (first + k)))

-- a delay within question 12's range
abbrev pub held : ℤ → Bool
held z = within (neg_ℤ (pos (8 * 10 ^ 9))) (pos (8 * 10 ^ 9)) z

-- the delays, where question 12 gets a yes
unfoldable pub solved_of : ℕ → List ℤ → List ℤ → Option (List ℤ)
solved_of m b q = let p = delays m b q in cond (q12 m p) (Some p) None

-- given delays in a list of 20 places
abbrev pub placed : ℕ → List ℤ → List ℤ
placed m lent = listed 20 m (at lent) (pos 0)

-- the given delays, where question 20 gets a yes
unfoldable pub checked_of : ℕ → List ℤ → List ℤ → List ℤ → Option (List ℤ)
checked_of m b q lent = cond (q20 m b q lent) (Some (placed m lent)) None

-- what questions 1, 5 and 9 to 11 give of b and q: the shares are not negative, those of b add up
-- to S, and b(0) is at least 10^6
pub record Solvable (m : ℕ) (b q : List ℤ) : Type 0 where
  pub few : m ≤ 20
  pub first : pos (10 ^ 6) ⩽ at b 0
  pub shares : (k : ℕ) → k < m → pos 0 ⩽ at b k
  pub whole : sum m (at b) ≡ S
  pub targets : (l : ℕ) → l < m → (pos 0 ⩽ at q l) × (at q l ⩽ S)

-- of the numbers that the sum of line l from k = first on is made of: the shares add up to at most
-- S, and each delay is in its bounds
pub record Weighed (first l : ℕ) (b p : List ℤ) : Type 0 where
  pub few : l < 20
  pub some : first ≤ suc l
  pub shares : (k : ℕ) → k < suc l → pos 0 ⩽ at b k
  pub whole : sum (suc l) (at b) ⩽ S
  pub delays : (k : ℕ) → k + first ≤ l → nat_abs (at p k) ≤ 8 * 10 ^ 9

-- and of the others that are held against it
pub record Next (first l : ℕ) (b q p : List ℤ) : Type 0 where
  pub weights : Weighed first l b p
  pub divisor : (pos 0 ⋖ at b 0) × (nat_abs (at b 0) ≤ 10 ^ 9)
  pub target : nat_abs (at q l) ≤ 10 ^ 9
