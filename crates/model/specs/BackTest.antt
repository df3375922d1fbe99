-- 01, Back-test: a set s of size m, cut to size n = m - c.
use Rattle.std.specs.Prelude.{ℕ, suc, ◌+◌, ◌-◌, min, Bool, ◌&&◌, cond, List, ltb, leb, eqb, ℤ, pos, nat_abs, ◌+ℤ◌, ◌-ℤ◌}
use Rattle.integers.specs.Sums.{sum}
use Rattle.model.specs.Lists.{total}
use Rattle.model.specs.Records.{cell, triangle}
use Rattle.model.specs.Cells.{rbns, ibnr}
use Rattle.model.specs.declared.TriangleSet.{TriangleSet}

-- the set of size n: the cells with i + j <= n
unfoldable pub cut_to : ℕ → TriangleSet → TriangleSet
cut_to n s =
    record {
      line = s.line;
      has_incurred = s.has_incurred;
      counts = triangle n (cell s.counts);
      paid = triangle n (cell s.paid);
      incurred = triangle n (cell s.incurred);
    }

-- whether cell (i,j) is compared: forecast by the cut set, and known
unfoldable pub compared : ℕ → ℕ → ℕ → ℕ → Bool
compared m n i j = leb i n && ltb j n && ltb n (i + j) && leb (i + j) m

-- the error of cell (i,j): RBNS + IBNR less paid, and 0 where it is not compared; p is the cut
-- set's delays
unfoldable pub gap : ℕ → ℕ → TriangleSet → List ℤ → ℕ → ℕ → ℕ → ℕ → ℤ
gap m n s p method basis i j =
    cond (compared m n i j) (rbns n (cut_to n s) p method basis i j +ℤ ibnr n (cut_to n s) p method i j -ℤ cell s.paid i j) (pos 0)

-- the number of cells: n - t in each calendar year t, up to the smaller of c and n - 1
unfoldable pub cell_number : ℕ → ℕ → ℕ
cell_number c n = total (min c (n - 1)) (λ k. n - suc k)

-- the sum of the cells' absolute errors
unfoldable pub cellwise : ℕ → (ℕ → ℕ → ℤ) → ℕ
cellwise n d = total n (λ k. total n (λ j. nat_abs (d (suc k) j)))

-- the error of calendar year t: the sum over its cells, those with i + j = n + t
unfoldable pub year_gap : ℕ → (ℕ → ℕ → ℤ) → ℕ → ℤ
year_gap n d t = sum n (λ k. sum n (λ j. cond (eqb (suc k + j) (n + t)) (d (suc k) j) (pos 0)))

-- the sum of the absolute errors of calendar years 1 to c
unfoldable pub yearwise : ℕ → ℕ → (ℕ → ℕ → ℤ) → ℕ
yearwise n c d = total c (λ k. nat_abs (year_gap n d (suc k)))

-- the absolute error of the total
unfoldable pub overall : ℕ → (ℕ → ℕ → ℤ) → ℕ
overall n d = nat_abs (sum n (λ k. sum n (λ j. d (suc k) j)))
