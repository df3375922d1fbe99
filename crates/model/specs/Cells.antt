-- 01, Cell forecasts.
use Rattle.std.specs.Prelude.{ℕ, suc, ◌+◌, ◌-◌, ◌*◌, ◌/◌, ◌%◌, Bool, ◌&&◌, cond, List, ◌++◌, ltb, leb, eqb, ℤ, pos, ◌*ℤ◌, drop}
use Rattle.integers.specs.Sums.{sum}
use Rattle.model.specs.Lists.{tabulate, listed, at}
use Rattle.model.specs.Records.{cell}
use Rattle.model.specs.Rounding.{S, r}
use Rattle.model.specs.Shares.{latest, g, b_list}
use Rattle.model.specs.RowBases.{row_base}
use Rattle.model.specs.declared.TriangleSet.{TriangleSet}

-- s(k), for k <= m - i: b(k) under basis 1; under basis 0 row i's own counts, scaled to g(m-i) in
-- all and rounded
unfoldable pub s_list : ℕ → TriangleSet → ℕ → ℕ → List ℤ
s_list m s basis i =
    cond (eqb basis 1) (b_list m s.counts)
    (listed 20 (suc (m - i)) (λ k. r (cell s.counts i k *ℤ g m s.counts (m - i)) (latest m s.counts i)) (pos 0))

-- the sum of x(k) × p(l) over k and l below m with k + l = j, for those k that ok says yes to
unfoldable pub pairs : ℕ → ℕ → (ℕ → Bool) → List ℤ → List ℤ → ℤ
pairs m j ok x p = sum m (λ k. cond (ok k && leb k j && ltb (j - k) m) (at x k *ℤ at p (j - k)) (pos 0))

-- RBNS from V(i): r(V(i) × the sum over the reporting delays k <= m - i, / S^2)
unfoldable pub rbns_from : ℕ → ℤ → List ℤ → List ℤ → ℕ → ℕ → ℤ
rbns_from m v s p i j = r (v *ℤ pairs m j (λ k. leb k (m - i)) s p) (S *ℤ S)

-- IBNR from V(i): the same over the later ones, with b in place of s
unfoldable pub ibnr_from : ℕ → ℤ → List ℤ → List ℤ → ℕ → ℕ → ℤ
ibnr_from m v b p i j = r (v *ℤ pairs m j (λ k. ltb (m - i) k) b p) (S *ℤ S)

-- the RBNS cell (i,j) of a set under delays p: 0 where the cell is known
unfoldable pub rbns : ℕ → TriangleSet → List ℤ → ℕ → ℕ → ℕ → ℕ → ℤ
rbns m s p method basis i j = cond (leb (i + j) m) (pos 0) (rbns_from m (row_base m s method i) (s_list m s basis i) p i j)

-- the IBNR cell (i,j), likewise
unfoldable pub ibnr : ℕ → TriangleSet → List ℤ → ℕ → ℕ → ℕ → ℤ
ibnr m s p method i j = cond (leb (i + j) m) (pos 0) (ibnr_from m (row_base m s method i) (b_list m s.counts) p i j)

-- where cell (i,j) stands in the output: its RBNS here, its IBNR one place on
abbrev pub place_of : ℕ → ℕ → ℕ → ℕ
place_of m i j = 2 * ((i - 1) * (2 * m - 1) + j)

-- the year of entry e, and its delay: Agreement.places of `examples` holds these to place_of
abbrev pub year_of : ℕ → ℕ → ℕ
year_of m e = e / 2 / (2 * m - 1) + 1

abbrev pub delay_of : ℕ → ℕ → ℕ
delay_of m e = e / 2 % (2 * m - 1)

-- entry e of the output
unfoldable pub entry : ℕ → TriangleSet → List ℤ → ℕ → ℕ → ℕ → ℤ
entry m s p method basis e =
    cond (eqb (e % 2) 0) (rbns m s p method basis (year_of m e) (delay_of m e)) (ibnr m s p method (year_of m e) (delay_of m e))

-- how many entries there are
abbrev pub size : ℕ → ℕ
size m = 2 * m * (2 * m - 1)

-- all of them
unfoldable pub entries : ℕ → TriangleSet → List ℤ → ℕ → ℕ → List ℤ
entries m s p method basis = tabulate (size m) (entry m s p method basis)

-- the output after the forecast: the entries, and past them what stood there before
unfoldable pub output_from : ℕ → TriangleSet → List ℤ → ℕ → ℕ → List ℤ → List ℤ
output_from m s p method basis before = entries m s p method basis ++ drop (size m) before
