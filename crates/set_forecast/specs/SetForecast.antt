-- The forecast of a set: from what is prepared of it, and from the set, with the delays from either
-- side.
use Rattle.std.specs.Prelude.{ℕ, ◌^◌, ◌≤◌, ◌≡◌, Option, List, ◌++◌, ℤ}
use Rattle.std.specs.Option.{unwrap_or}
use Rattle.model.specs.Delays.{delays_of}
use Rattle.model.specs.RowBases.{leftovers}
use Rattle.model.specs.Cells.{output_from}
use Rattle.model.specs.Questions.{Question, first_no, of_shares, of_method, of_forecast}
use Rattle.model.specs.Calls.{if_accepted}
use Rattle.model.specs.Lent.{triangle_in}
use Rattle.model.specs.declared.TriangleSet.{TriangleSet}
use Rattle.ladder.specs.Sums.{Small}
use Rattle.chain_ladder.specs.Valid.{Amounts}
use Rattle.ladder.specs.Ladder.{Ladder}
use Rattle.delays.specs.Prepared.{asks_delays}
use Rattle.row_bases.specs.Method.{Asked}
use Rattle.cells.specs.Weights.{Delays}

-- of what is prepared: questions 13 and 14 are left
unfoldable pub method_refusal : ℕ → TriangleSet → ℕ → ℕ
method_refusal m s method = first_no (of_method m s method)

-- of the set: questions 9 to 14
unfoldable pub set_refusal : ℕ → TriangleSet → ℕ → ℕ
set_refusal m s method = first_no (of_forecast m s (delays_of m s) method)

-- the questions of the set with the delays from either side: the lent ones where some are given,
-- else those solved here
unfoldable pub of_either : ℕ → TriangleSet → Option (List ℤ) → ℕ → List Question
of_either m s given method = of_shares m s.counts s.paid ++ asks_delays m s.counts s.paid given ++ of_method m s method

-- the delays that its forecast goes by
unfoldable pub either_delays : ℕ → TriangleSet → Option (List ℤ) → List ℤ
either_delays m s given = unwrap_or given (delays_of m s)

-- the forecast of the set s with the delays p: its refusal number n, the leftovers and the output
-- before and after; beside a refusal both are as they were
pub record Answered (number m : ℕ) (s : TriangleSet) (p : List ℤ) (method basis n : ℕ) (left lefts before after : List ℤ) : Type 0 where
  pub refusal : n ≡ number
  pub leftovers_are : lefts ≡ if_accepted n (leftovers m s method) left
  pub output : after ≡ if_accepted n (output_from m s p method basis before) before

-- what questions 1, 5 and 6 give of a lent set and a method
pub record InRange (m : ℕ) (set : List ℤ) (method : ℕ) : Type 0 where
  pub counts : Amounts m (10 ^ 7) (triangle_in 0 set)
  pub paid : Amounts m (10 ^ 10) (triangle_in 1 set)
  pub known : method ≤ 2
  pub incurred : (method ≡ 0 → ⊥) → Small m (10 ^ 10) (triangle_in 2 set)

-- what is prepared of it: the chain ladders of counts, cl and cg, and of paid, dl and dg, and any
-- delays p within question 12's range
pub record Given (m : ℕ) (set : List ℤ) (method : ℕ) (cl cg dl dg p : List ℤ) : Type 0 where
  pub asked : Asked m (triangle_in 0 set) (triangle_in 1 set) (triangle_in 2 set) method
  pub counts : Ladder m (triangle_in 0 set) cl cg
  pub paid : Ladder m (triangle_in 1 set) dl dg
  pub delays : Delays p
