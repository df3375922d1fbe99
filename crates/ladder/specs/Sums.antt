-- Sums of a triangle, as lists by place.
use Rattle.std.specs.Prelude.{ℕ, suc, ◌+◌, ◌-◌, ◌*◌, ◌^◌, ◌≤◌, ◌<◌, List, ℤ, pos, nat_abs}
use Rattle.model.specs.Lists.{at, listed}
use Rattle.model.specs.Records.{cell}
use Rattle.model.specs.Shares.{A, B}
use Rattle.model.specs.Shares as Shares

-- at most 20 years, and no cell further from 0 than n
pub record Small (m n : ℕ) (t : List ℤ) : Type 0 where
  pub few : m ≤ 20
  pub cells : (i j : ℕ) → 1 ≤ i → i + j ≤ m → nat_abs (cell t i j) ≤ n

-- at most 20 cells that stand d places apart, from place a on, none further from 0 than 10^10
pub record Spaced (a d n : ℕ) (t : List ℤ) : Type 0 where
  pub few : n ≤ 20
  pub places : (k : ℕ) → k < n → a + d * k < 1200
  pub cells : (k : ℕ) → k < n → nat_abs (at t (a + d * k)) ≤ 10 ^ 10

-- C(i,m-i), year i at place i - 1
unfoldable pub latests : ℕ → List ℤ → List ℤ
latests m t = listed 20 m (λ k. Shares.latest m t (suc k)) (pos 0)

-- A(j) at place j - 1
unfoldable pub a_sums : ℕ → List ℤ → List ℤ
a_sums m t = listed 20 (m - 1) (λ k. A m t (suc k)) (pos 0)

-- B(j) at place j - 1
unfoldable pub b_sums : ℕ → List ℤ → List ℤ
b_sums m t = listed 20 (m - 1) (λ k. B m t (suc k)) (pos 0)
