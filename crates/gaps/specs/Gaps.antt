-- The gaps as a list by place, and what the sums ask of them.
use Rattle.std.specs.Prelude.{ℕ, suc, ◌+◌, ◌-◌, ◌*◌, ◌/◌, ◌%◌, ◌^◌, ◌≤◌, ◌<◌, cond, List, eqb, ℤ, pos, nat_abs, ◌+ℤ◌, ◌-ℤ◌}
use Rattle.integers.specs.Sums.{sum}
use Rattle.model.specs.Lists.{tabulate, at}
use Rattle.model.specs.Records.{cell}
use Rattle.model.specs.BackTest.{compared}
use Rattle.cells.specs.declared.Cell.{Cell}
use Rattle.cells.specs.CellOf.{sums_from, cell_of}
use Rattle.years.specs.Ready.{year_weights}

-- the sizes m of a set and n of the cut one, and a paid triangle of size m
pub record Sizes (m n : ℕ) (paid : List ℤ) : Type 0 where
  pub least : 2 ≤ n
  pub less : n ≤ m
  pub few : m ≤ 20
  pub cells : (i j : ℕ) → 1 ≤ i → i + j ≤ m → nat_abs (cell paid i j) ≤ 10 ^ 10

-- cell (i,j) of the forecast of size n, from the lists that it is made of: the counts t, their
-- shares b, g and latest sums, the row bases v and the delays p
abbrev pub cell_from : ℕ → List ℤ → ℕ → List ℤ → List ℤ → List ℤ → List ℤ → List ℤ → ℕ → ℕ → Cell
cell_from n t basis b g latest v p i j = cell_of n (at v (i - 1)) (year_weights n t basis b g latest i) p (sums_from n (n - (i - 1)) b p) i j

-- the gap of cell (i,j), whose forecast is c
unfoldable pub gap_from : ℕ → ℕ → Cell → List ℤ → ℕ → ℕ → ℤ
gap_from m n c paid i j = cond (compared m n i j) (c.rbns +ℤ c.ibnr -ℤ cell paid i j) (pos 0)

-- cell (i,j) at 20 × (i-1) + j
abbrev pub gap_at : ℕ → ℕ → (ℕ → ℕ → Cell) → List ℤ → ℕ → ℤ
gap_at m n c paid q = gap_from m n (c (q / 20 + 1) (q % 20)) paid (q / 20 + 1) (q % 20)

unfoldable pub gaps : ℕ → ℕ → (ℕ → ℕ → Cell) → List ℤ → List ℤ
gaps m n c paid = tabulate 400 (gap_at m n c paid)

-- no gap further from 0 than 5 × 10^15
pub record SmallGaps (d : List ℤ) : Type 0 where
  pub gap : (k j : ℕ) → k < 20 → j < 20 → nat_abs (cell d (suc k) j) ≤ 5 * 10 ^ 15

-- the gaps of row k + 1 where i + j is e
abbrev pub row_in_year : List ℤ → ℕ → ℕ → ℕ → ℤ
row_in_year d n k e = sum n (λ j. cond (eqb (suc k + j) e) (cell d (suc k) j) (pos 0))
