-- The two numbers of a cell as one value, and the entries of years.
use Rattle.std.specs.Prelude.{ℕ, ◌+◌, ◌-◌, ◌*◌, ◌/◌, ◌%◌, ◌≤◌, ◌^◌, ◌≡◌, nat_abs, cond, List, leb, eqb, ℤ, pos, ◌*ℤ◌}
use Rattle.model.specs.Lists.{at, tabulate}
use Rattle.model.specs.Rounding.{S, r}
use Rattle.model.specs.Cells.{pairs, rbns_from, year_of, delay_of}
use Rattle.cells.specs.declared.Basis.{Basis}
use Rattle.cells.specs.declared.Basis.TheVariants.{Actual, Estimated}
use Rattle.cells.specs.declared.Cell.{Cell}
use Rattle.cells.specs.declared.YearParts.{YearParts}
use Rattle.cells.specs.Weights.{Weights, Delays, Summed}

-- the number of a basis, as a call gives it
abbrev pub number : Basis → ℕ
number Actual = 0
number Estimated = 1

-- the sums of b(k) × p(l) over the reporting delays k from c on, that with k + l = j at place j
unfoldable pub sums_from : ℕ → ℕ → List ℤ → List ℤ → List ℤ
sums_from m c b p = tabulate 39 (λ j. pairs m j (leb c) b p)

-- what the cells of year i ask of the weights s, the delays p and the sums u over the unreported
-- claims; under basis 1 s holds the shares, and `whole` the sums over all claims
pub record Year (m i basis : ℕ) (whole u s p : List ℤ) : Type 0 where
  pub first : 1 ≤ i
  pub last : i ≤ m
  pub few : m ≤ 20
  pub weights : Weights s
  pub delays : Delays p
  pub summed : Summed u
  pub whole_is : basis ≡ 1 → whole ≡ sums_from m 0 s p
  pub later_is : basis ≡ 1 → u ≡ sums_from m (m - i + 1) s p

-- that a year's parts are those: its row base is small, and its lists are as Year says
abbrev pub OfYear : YearParts → Type 0
OfYear y = Year y.m y.i (number y.basis) y.whole.now y.unreported.now y.s.now y.p.now × (nat_abs y.v ≤ 2 * 10 ^ 14)

-- RBNS and IBNR of cell (i,j), for the row base v, the weights s, the delays p and the sums u over
-- the unreported claims; a known cell is 0
unfoldable pub cell_of : ℕ → ℤ → List ℤ → List ℤ → List ℤ → ℕ → ℕ → Cell
cell_of m v s p u i j =
    record {
      rbns = cond (leb (i + j) m) (pos 0) (rbns_from m v s p i j);
      ibnr = cond (leb (i + j) m) (pos 0) (r (v *ℤ at u j) (S *ℤ S));
    }

-- the first n entries of a year: for each delay RBNS and then IBNR
unfoldable pub first_entries : ℕ → ℤ → List ℤ → List ℤ → List ℤ → ℕ → ℕ → List ℤ
first_entries m v s p u i n =
    tabulate n (λ e. cond (eqb (e % 2) 0) (cell_of m v s p u i (e / 2)).rbns (cell_of m v s p u i (e / 2)).ibnr)

-- all of them, for the delays 0 to 2m - 2
abbrev pub year_entries : ℕ → ℤ → List ℤ → List ℤ → List ℤ → ℕ → List ℤ
year_entries m v s p u i = first_entries m v s p u i (2 * (2 * m - 1))

-- entry e of a forecast: v holds the row bases, year i at place i - 1, and s gives a year's weights
-- of the reported claims
unfoldable pub entry_at : ℕ → List ℤ → (ℕ → List ℤ) → List ℤ → List ℤ → ℕ → ℤ
entry_at m v s b p e =
    let i = year_of m e in
    let c = cell_of m (at v (i - 1)) (s i) p (sums_from m (m - (i - 1)) b p) i (delay_of m e) in
    cond (eqb (e % 2) 0) c.rbns c.ibnr

-- the entries of years 1 to n
unfoldable pub years_entries : ℕ → List ℤ → (ℕ → List ℤ) → List ℤ → List ℤ → ℕ → List ℤ
years_entries m v s b p n = tabulate (n * (2 * (2 * m - 1))) (entry_at m v s b p)

-- from the parts of a year, its cell of delay j, its first n entries and all of them
abbrev pub year_cell : YearParts → ℕ → Cell
year_cell y j = cell_of y.m y.v y.s.now y.p.now y.unreported.now y.i j

abbrev pub first_of : YearParts → ℕ → List ℤ
first_of y = first_entries y.m y.v y.s.now y.p.now y.unreported.now y.i

abbrev pub entries_of : YearParts → List ℤ
entries_of y = first_of y (2 * (2 * y.m - 1))
