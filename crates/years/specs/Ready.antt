-- What the writing of the years asks: the chain ladder of the counts t, row bases within question
-- 14's range, and delays within question 12's.
use Rattle.std.specs.Prelude.{ℕ, suc, ◌+◌, ◌-◌, ◌*◌, ◌^◌, ◌≤◌, ◌<◌, ◌≡◌, List, ℤ, pos, nat_abs}
use Rattle.integers.specs.Parts.{◌⋖◌}
use Rattle.model.specs.Lists.{at, listed}
use Rattle.model.specs.Records.{cell}
use Rattle.model.specs.Shares as Shares
use Rattle.model.specs.Shares.{g_list, b_list}
use Rattle.ladder.specs.SharesLaws.{Sound}
use Rattle.cells.specs.Weights.{Delays, weights_from}

pub record Ready (m : ℕ) (t shares g latest v p : List ℤ) : Type 0 where
  pub some : 2 ≤ m
  pub few : m ≤ 20
  pub sound : Sound m t
  pub cells : (i j : ℕ) → 1 ≤ i → i + j ≤ m → nat_abs (cell t i j) ≤ 10 ^ 7
  pub rows : (i : ℕ) → 1 ≤ i → i ≤ m → (pos 0 ⋖ Shares.latest m t i) × (nat_abs (Shares.latest m t i) ≤ 10 ^ 18)
  pub shares_are : shares ≡ b_list m t
  pub g_are : g ≡ g_list m t
  pub latest_are : latest ≡ listed 20 m (λ k. Shares.latest m t (suc k)) (pos 0)
  pub bases : (k : ℕ) → k < m → nat_abs (at v k) ≤ 2 * 10 ^ 14
  pub delays : Delays p

-- the weights of year i, from these lists
unfoldable pub year_weights : ℕ → List ℤ → ℕ → List ℤ → List ℤ → List ℤ → ℕ → List ℤ
year_weights m t basis shares g latest i = weights_from m t i basis shares (at g (m - i)) (at latest (i - 1))
