-- What questions 1 and 5 give of a set. Assumes nothing.
use Rattle.std.specs.Prelude.{◌≡◌, true, ◌&&◌, List, ℕ, ◌+◌, ◌^◌, ◌≤◌, ℤ, pos, neg_ℤ, nat_abs}
use Rattle.std.proofs.Common.{arith}
use Rattle.integers.specs.Parts.{◌⩽◌}
use Rattle.integers.specs.Order.{nat_abs-≤, nat_abs_mono}
use Rattle.model.specs.ListsLaws.{and_left, and_right}
use Rattle.model.specs.Records.{cell, in_range}
use Rattle.model.specs.Questions.{q1, q5_writer, each_cell}
use Rattle.model.specs.QuestionsLaws.{within_so, each_cell_at}
use Rattle.model.specs.declared.TriangleSet.{TriangleSet}
use Rattle.model.specs.Lengths.{size_so}
use Rattle.ladder.specs.SharesLaws.{NotNegative}
use Rattle.ladder.specs.Sums.{Small}

-- a set that the reader hands back: m is 2 to 20, and each cell is in its range
pub record Valid (m : ℕ) (s : TriangleSet) : Type 0 where
  pub size : q1 m ≡ true
  pub values : q5_writer m s.has_incurred s.counts s.paid s.incurred ≡ true

-- the same of counts (n is 10^7) or paid (n is 10^10) alone: each cell is from 0 to n
pub record Amounts (m n : ℕ) (t : List ℤ) : Type 0 where
  pub least : 2 ≤ m
  pub nonneg : NotNegative m t
  pub small : Small m n t

-- a value in its range
count_so : (v : ℤ) → in_range 0 v ≡ true → (pos 0 ⩽ v) × (nat_abs v ≤ 10 ^ 7)
unfolding in_range
count_so v e = let h = within_so (pos 0) (pos (10 ^ 7)) v e in (h.0, nat_abs_mono h.0 h.1)

paid_so : (v : ℤ) → in_range 1 v ≡ true → (pos 0 ⩽ v) × (nat_abs v ≤ 10 ^ 10)
unfolding in_range
paid_so v e = let h = within_so (pos 0) (pos (10 ^ 10)) v e in (h.0, nat_abs_mono h.0 h.1)

incurred_so : (v : ℤ) → in_range 2 v ≡ true → nat_abs v ≤ 10 ^ 10
unfolding in_range
incurred_so v e = let h = within_so (neg_ℤ (pos (10 ^ 10))) (pos (10 ^ 10)) v e in nat_abs-≤.1 (h.1, h.0)

pub small_up : (m n n' : ℕ) (t : List ℤ) → n ≤ n' → Small m n t → Small m n' t
small_up m n n' t h small = record { few = small.few; cells = λ i j k l. let u = small.cells i j k l in omega arith }

module _ (m : ℕ) (s : TriangleSet) (valid : Valid m s) where
  pub least : 2 ≤ m
  least = (size_so m valid.size).0

  pub few : m ≤ 20
  few = (size_so m valid.size).1

  -- question 5 of a cell of each triangle
  count_in : (i j : ℕ) → 1 ≤ i → i + j ≤ m → in_range 0 (cell s.counts i j) ≡ true
  unfolding q5_writer
  count_in = each_cell_at m (λ i j. in_range 0 (cell s.counts i j)) (and_left _ _ (and_left _ _ valid.values))

  paid_in : (i j : ℕ) → 1 ≤ i → i + j ≤ m → in_range 1 (cell s.paid i j) ≡ true
  unfolding q5_writer
  paid_in = each_cell_at m (λ i j. in_range 1 (cell s.paid i j)) (and_right (each_cell m (λ i j. in_range 0 (cell s.counts i j))) _ (and_left _ _ valid.values))

  incurred_in : s.has_incurred ≡ true → (i j : ℕ) → 1 ≤ i → i + j ≤ m → in_range 2 (cell s.incurred i j) ≡ true
  unfolding q5_writer
  incurred_in there =
      each_cell_at m (λ i j. in_range 2 (cell s.incurred i j))
      (rw there at (and_right (each_cell m (λ i j. in_range 0 (cell s.counts i j)) && each_cell m (λ i j. in_range 1 (cell s.paid i j))) _ valid.values))

  pub counts_nonneg : NotNegative m s.counts
  counts_nonneg i j h l = (count_so _ (count_in i j h l)).0

  pub counts_small : Small m (10 ^ 7) s.counts
  counts_small = record { few = few; cells = λ i j h l. (count_so _ (count_in i j h l)).1 }

  pub paid_nonneg : NotNegative m s.paid
  paid_nonneg i j h l = (paid_so _ (paid_in i j h l)).0

  pub paid_small : Small m (10 ^ 10) s.paid
  paid_small = record { few = few; cells = λ i j h l. (paid_so _ (paid_in i j h l)).1 }

  pub counts_of : Amounts m (10 ^ 7) s.counts
  counts_of = record { least = least; nonneg = counts_nonneg; small = counts_small }

  pub paid_of : Amounts m (10 ^ 10) s.paid
  paid_of = record { least = least; nonneg = paid_nonneg; small = paid_small }

  pub incurred_small : s.has_incurred ≡ true → Small m (10 ^ 10) s.incurred
  incurred_small there = record { few = few; cells = λ i j h l. incurred_so _ (incurred_in there i j h l) }
