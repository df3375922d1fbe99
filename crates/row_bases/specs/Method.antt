-- The row bases and leftovers of a set under a method, and questions 13 and 14.
use Rattle.std.specs.Prelude.{ℕ, suc, ◌*◌, ◌^◌, ◌≤◌, ◌<◌, ◌≡◌, Option, Some, List, ℤ, pos, nat_abs}
use Rattle.integers.specs.Parts.{◌⩽◌, ◌⋖◌}
use Rattle.model.specs.Lists.{at, listed}
use Rattle.model.specs.Shares.{ultimate}
use Rattle.model.specs.RowBases.{row_base, leftovers}
use Rattle.model.specs.Questions.{first_no, of_method}
use Rattle.model.specs.Calls.{if_accepted, zeros}
use Rattle.model.specs.declared.TriangleSet.{TriangleSet}
use Rattle.ladder.specs.Sums.{Small}
use Rattle.chain_ladder.specs.Developed.{IncurredOf}
use Rattle.chain_ladder.specs.DevelopedLaws.{Shared}

-- V(i) at place i - 1
unfoldable pub row_bases : ℕ → TriangleSet → ℕ → List ℤ
row_bases m s method = listed 20 m (λ k. row_base m s method (suc k)) (pos 0)

-- what questions 1, 5, 6 and 9 to 11 give of counts c, paid d and incurred e: counts and paid that
-- passed, and a method that is known, with its incurred
pub record Asked (m : ℕ) (c d e : List ℤ) (method : ℕ) : Type 0 where
  pub shared : Shared m c d
  pub known : method ≤ 2
  pub incurred : (method ≡ 0 → ⊥) → Small m (10 ^ 10) e

-- W of incurred t, where question 13 gets a yes, under methods 1 and 2; zeros under method 0, where
-- incurred is not asked for
pub record Under (m : ℕ) (t : List ℤ) (method : ℕ) (given : Option (List ℤ)) : Type 0 where
  pub unused : method ≡ 0 → given ≡ Some (zeros 20)
  pub used : (method ≡ 0 → ⊥) → IncurredOf m t given

-- the number n of the first of questions 13 and 14 that gets a no; where none does, the row bases
-- v; and the leftovers, as before beside a refusal
pub record Based (m : ℕ) (s : TriangleSet) (method n : ℕ) (v before left : List ℤ) : Type 0 where
  pub refusal : n ≡ first_no (of_method m s method)
  pub bases : n ≡ 0 → v ≡ row_bases m s method
  pub lefts : left ≡ if_accepted n (leftovers m s method) before

-- the ultimates w of incurred as the bases use them
pub record Incurreds (m : ℕ) (s : TriangleSet) (method : ℕ) (w : List ℤ) : Type 0 where
  pub small : (k : ℕ) → k < m → (pos 0 ⩽ at w k) × (nat_abs (at w k) ≤ 2 * 10 ^ 14)
  pub first : method ≡ 1 → pos 0 ⋖ at w 0
  pub are : (method ≡ 0 → ⊥) → (k : ℕ) → k < m → at w k ≡ ultimate m s.incurred (suc k)
