-- Laws of the entries of several years: none, one year more, and all of them as the model has them.
-- Assumes nothing.
use Rattle.std.specs.Prelude.{◌≡◌, ℕ, suc, ◌+◌, ◌-◌, ◌*◌, ◌/◌, ◌%◌, ◌≤◌, ◌<◌, eqb, ℤ, ◌*ℤ◌}
use Rattle.std.proofs.Math.Path.{sym, ap}
use Rattle.std.proofs.Common.{◌∙◌, one-mul, mul_assoc, mul-le-mul_right, div-lt_iff_lt-mul}
use Rattle.std.proofs.Math.Bool.{cond}
use mathlib.Core.List.{List, [], ◌++◌}
use Rattle.std.proofs.Math.Nat.{mod-lt, add-mul, mul_left_comm, zero-add}
use native.Mathlib.Omega.{arith}
use Rattle.std.proofs.Math.Arith.{digits_div, digits_mod}
use Rattle.std.proofs.Math.ListN.{length}
use Rattle.model.specs.Lists.{at, tabulate}
use Rattle.model.specs.ListsLaws.{tabulate_append, tabulate_ext, length_tabulate}
use Rattle.model.specs.Cells.{size, year_of, delay_of, ibnr_from, rbns, ibnr, entry, entries, output_from, s_list}
use Rattle.model.specs.Rounding.{S, r}
use Rattle.model.specs.Overlay.{overlay}
use Rattle.model.specs.Shares.{b_list}
use Rattle.model.specs.RowBases.{row_base}
use Rattle.model.specs.declared.TriangleSet.{TriangleSet}
use Rattle.cells.specs.SumsFromLaws.{sum_at}
use Rattle.cells.specs.CellOf.{sums_from, cell_of, first_entries, year_entries, entry_at, years_entries}

-- the entries of m years
pub all_inside : (m : ℕ) → m * (2 * (2 * m - 1)) ≡ size m
all_inside m = mul_left_comm m 2 (2 * m - 1) ∙ sym (mul_assoc 2 m (2 * m - 1))

-- the entries of year n + 1 stand inside the output
pub year_inside : (m n : ℕ) → n < m → n * (2 * (2 * m - 1)) + 2 * (2 * m - 1) ≤ size m
year_inside m n h =
    let w = 2 * (2 * m - 1) in
    let k : n + 1 ≤ m = omega arith in
    let a : (n + 1) * w ≤ m * w = mul-le-mul_right w k in
    let b : (n + 1) * w ≡ n * w + w = add-mul n 1 w ∙ ap (λ (x : ℕ). n * w + x) (one-mul w) in
    omega (arith, all_inside m)

module _ (m : ℕ) (some : 1 ≤ m) (v : List ℤ) (s : ℕ → List ℤ) (b p : List ℤ) where
  pub no_years : years_entries m v s b p 0 ≡ []
  unfolding years_entries tabulate
  no_years = let e : 0 * (2 * (2 * m - 1)) ≡ 0 = omega arith in rw e

  pub length_years : (n : ℕ) → length (years_entries m v s b p n) ≡ n * (2 * (2 * m - 1))
  unfolding years_entries
  length_years n = length_tabulate (n * (2 * (2 * m - 1))) (entry_at m v s b p)

  -- entry e of year n + 1
  of_year : (n e : ℕ) → e < 2 * (2 * m - 1)
      → entry_at m v s b p (n * (2 * (2 * m - 1)) + e) ≡ cond (eqb (e % 2) 0) (cell_of m (at v n) (s (n + 1)) p (sums_from m (m - n) b p) (n + 1) (e / 2)).rbns (cell_of m (at v n) (s (n + 1)) p (sums_from m (m - n) b p) (n + 1) (e / 2)).ibnr
  unfolding entry_at
  of_year n e h =
      let w = 2 * m - 1 in
      let x = n * w in
      let a : n * (2 * w) ≡ 2 * x = swap n w in
      let k : e / 2 < w = omega arith in
      let parity : (2 * x + e) % 2 ≡ e % 2 = omega arith in
      let half : (2 * x + e) / 2 ≡ x + e / 2 = omega arith in
      let year : (x + e / 2) / w ≡ n = digits_div n k in
      let delay : (x + e / 2) % w ≡ e / 2 = digits_mod n k in
      let back : n + 1 - 1 ≡ n = omega arith in
      rw (a, parity, half, year, delay, back)
    where
      swap : (n w : ℕ) → n * (2 * w) ≡ 2 * (n * w)
      swap n w = mul_left_comm n 2 w

  pub one_more_year : (n : ℕ) → years_entries m v s b p n ++ year_entries m (at v n) (s (n + 1)) p (sums_from m (m - n) b p) (n + 1) ≡ years_entries m v s b p (n + 1)
  unfolding years_entries first_entries
  one_more_year n =
      let w = 2 * (2 * m - 1) in
      let e : (n + 1) * w ≡ n * w + w = add-mul n 1 w ∙ ap (λ (x : ℕ). n * w + x) (one-mul w) in
      sym
      (ap (λ (k : ℕ). tabulate k (entry_at m v s b p)) e ∙ tabulate_append (n * w) w (entry_at m v s b p)
      ∙ ap (λ (l : List ℤ). tabulate (n * w) (entry_at m v s b p) ++ l)
      (tabulate_ext w (λ k. entry_at m v s b p (n * w + k))
      (λ k. cond (eqb (k % 2) 0) (cell_of m (at v n) (s (n + 1)) p (sums_from m (m - n) b p) (n + 1) (k / 2)).rbns (cell_of m (at v n) (s (n + 1)) p (sums_from m (m - n) b p) (n + 1) (k / 2)).ibnr)
      (λ k h. of_year n k h)))

-- the sums over the unreported claims of year i give its IBNR cells
ibnr_is : (m i j : ℕ) (v : ℤ) (b p : List ℤ) → 1 ≤ i → i ≤ m → j < 39 → r (v *ℤ at (sums_from m (m - (i - 1)) b p) j) (S *ℤ S) ≡ ibnr_from m v b p i j
unfolding ibnr_from
ibnr_is m i j v b p h l k =
    let e : m - (i - 1) ≡ suc (m - i) = omega arith in
    rw (sum_at m (m - (i - 1)) b p j k, e)

-- the whole output of a set, from its row bases and weights
module _ (m : ℕ) (some : 1 ≤ m) (few : m ≤ 20) (t : TriangleSet) (p v : List ℤ) (s : ℕ → List ℤ) (method basis : ℕ)
    (bases : (i : ℕ) → 1 ≤ i → i ≤ m → at v (i - 1) ≡ row_base m t method i) (weights : (i : ℕ) → 1 ≤ i → i ≤ m → s i ≡ s_list m t basis i) where
  -- a cell as the model has it
  pub cell_is : (i j : ℕ) → 1 ≤ i → i ≤ m → j < 39
      → cell_of m (at v (i - 1)) (s i) p (sums_from m (m - (i - 1)) (b_list m t.counts) p) i j ≡ record { rbns = rbns m t p method basis i j; ibnr = ibnr m t p method i j }
  unfolding cell_of rbns ibnr
  cell_is i j h l k = rw (bases i h l, weights i h l, ibnr_is m i j (row_base m t method i) (b_list m t.counts) p h l k)

  entry_is : (e : ℕ) → e < size m → entry_at m v s (b_list m t.counts) p e ≡ entry m t p method basis e
  unfolding entry_at entry
  entry_is e l =
      let w : 0 < 2 * m - 1 = omega arith in
      let a : e / 2 < m * (2 * m - 1) = half e (m * (2 * m - 1)) (rw (mul_assoc 2 m (2 * m - 1)) at l) in
      let d : e / 2 / (2 * m - 1) < m = (div-lt_iff_lt-mul w).1 a in
      let j : delay_of m e < 39 = omega (arith, mod-lt (e / 2) w) in
      rw (cell_is (year_of m e) (delay_of m e) (omega arith) (omega arith) j)
    where
      half : (e n : ℕ) → e < 2 * n → e / 2 < n
      half e n h = omega arith

  pub entries_are : years_entries m v s (b_list m t.counts) p m ≡ entries m t p method basis
  unfolding years_entries entries
  entries_are =
      ap (λ (n : ℕ). tabulate n (entry_at m v s (b_list m t.counts) p)) (all_inside m)
      ∙ tabulate_ext (size m) (entry_at m v s (b_list m t.counts) p) (entry m t p method basis) entry_is

  -- written at the front of the output
  pub output_is : (before : List ℤ) → overlay before 0 (years_entries m v s (b_list m t.counts) p m) ≡ output_from m t p method basis before
  unfolding overlay output_from entries
  output_is before =
      let l : 0 + length (entries m t p method basis) ≡ size m = ap (λ (n : ℕ). 0 + n) (length_tabulate (size m) (entry m t p method basis)) ∙ zero-add (size m) in
      rw (entries_are, l)
