-- What the cells ask of their callers: the sizes of weights and delays, by which every sum fits 64
-- bits.
use Rattle.std.specs.Prelude.{ℕ, ◌*◌, ◌+◌, ◌-◌, ◌^◌, ◌≤◌, ◌<◌, cond, List, eqb, ℤ, pos, nat_abs, ◌*ℤ◌}
use Rattle.integers.specs.Parts.{◌⩽◌, ◌⋖◌}
use Rattle.integers.specs.Sums.{sum}
use Rattle.model.specs.Lists.{at, listed}
use Rattle.model.specs.Records.{cell}
use Rattle.model.specs.Rounding.{r}

-- weights of counts: not negative, and together at most S and one half for each of 20 roundings
pub record Weights (x : List ℤ) : Type 0 where
  pub low : (k : ℕ) → k < 20 → pos 0 ⩽ at x k
  pub sum_high : sum 20 (at x) ⩽ pos (10 ^ 9 + 20)

-- delays that pass question 12
abbrev pub Delays : List ℤ → Type 0
Delays p = (l : ℕ) → l < 20 → nat_abs (at p l) ≤ 8 * 10 ^ 9

-- sums that `scale_cell` takes
abbrev pub Summed : List ℤ → Type 0
Summed u = (j : ℕ) → j < 39 → nat_abs (at u j) ≤ 9 * 10 ^ 18

-- what the weights of year i ask of the counts t, the share g(m-i) and the row's sum c
pub record Counted (m i : ℕ) (t : List ℤ) (g c : ℤ) : Type 0 where
  pub first : 1 ≤ i
  pub last : i ≤ m
  pub few : m ≤ 20
  pub share : nat_abs g ≤ 10 ^ 9
  pub some : pos 0 ⋖ c
  pub row : nat_abs c ≤ 10 ^ 18
  pub counts : (k : ℕ) → k ≤ m - i → nat_abs (cell t i k) ≤ 10 ^ 7

-- s(k) by the actual counts, from the count share g(m-i) and the row's sum c (01, Cell forecasts)
unfoldable pub actual_weight : List ℤ → ℕ → ℤ → ℤ → ℕ → ℤ
actual_weight counts i g c k = r (cell counts i k *ℤ g) c

-- s(k) of year i: the shares of counts for basis 1, else by the actual counts
unfoldable pub weights_from : ℕ → List ℤ → ℕ → ℕ → List ℤ → ℤ → ℤ → List ℤ
weights_from m counts i basis shares g c = cond (eqb basis 1) shares (listed 20 (m - i + 1) (actual_weight counts i g c) (pos 0))
