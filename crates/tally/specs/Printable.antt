-- The text of a tally has signed 64-bit numbers: where that holds, and that it holds of every
-- output whose entries are small. Assumes nothing.
use Rattle.std.specs.Prelude.{◌≡◌, true, List, ℕ, zero, suc, ◌-◌, ◌*◌, ◌^◌, ◌≤◌, ◌<◌, eqb, ℤ, pos, nat_abs, ◌+ℤ◌}
use Rattle.std.proofs.Math.Bool.{cond}
use Rattle.std.proofs.Common.{arith, eqb-true, ne_eqb}
use Rattle.std.proofs.Math.IntN.{+ℤ_idl, +ℤ_idr}
use Rattle.integers.specs.Order.{nat_abs-+ℤ}
use Rattle.integers.specs.Sums.{sum, sum_cong, sum_nothing, sum_nat_abs, sum_swap}
use Rattle.model.specs.Tests.{by_test}
use Rattle.model.specs.Lists.{at}
use Rattle.model.specs.ListsLaws.{get_d_tabulate}
use Rattle.model.specs.Calendar.{calendar_year, tally_of}
use Rattle.year_tally.specs.TallyAdd.{fits64}
use Rattle.year_tally.specs.declared.Tally.{Tally}
use Rattle.tally.specs.YearSums.{cells, entry_at, year_sum, years, Small, few_cells, small_entry, below_fits, year_sum_small, none_lost}

-- every number in the text of a tally of m is a signed 64-bit number, and so is each running total
pub record Printable (m : ℕ) (t : Tally) : Type 0 where
  pub first : (k : ℕ) → k < 2 * m - 2 → fits64 (at t.rbns k) ≡ true
  pub second : (k : ℕ) → k < 2 * m - 2 → fits64 (at t.ibnr k) ≡ true
  pub both : (k : ℕ) → k < 2 * m - 2 → fits64 (at t.rbns k +ℤ at t.ibnr k) ≡ true
  pub first_total : (n : ℕ) → n ≤ 2 * m - 2 → fits64 (sum n (at t.rbns)) ≡ true
  pub second_total : (n : ℕ) → n ≤ 2 * m - 2 → fits64 (sum n (at t.ibnr)) ≡ true
  pub total : fits64 (sum (2 * m - 2) (at t.rbns) +ℤ sum (2 * m - 2) (at t.ibnr)) ≡ true

-- ---- the totals

-- x in the year y, 0 in the others: added up over the first n years
abbrev counted : ℕ → ℕ → ℤ → ℤ
counted n y x = sum n (λ k. cond (eqb y (suc k)) x (pos 0))

once : (n y : ℕ) (x : ℤ) → nat_abs (counted n y x) ≤ nat_abs x
unfolding sum
once zero y x = omega arith
once (suc n) y x =
    by_test (eqb y (suc n))
    (λ e.
    let q = eqb-true y (suc n) e in
    let none : counted n y x ≡ pos 0 = sum_nothing n (λ k l. rw (ne_eqb y (suc k) (λ p. omega arith))) in
    rw (e, none, +ℤ_idl x) (omega arith))
    (λ e. rw (e, +ℤ_idr (counted n y x)) (once n y x))

module _ (m : ℕ) (f : ℕ → ℤ) (n b : ℕ) (small : (c : ℕ) → c < n → nat_abs (f c) ≤ b) where
  total_small : (y : ℕ) → nat_abs (sum y (λ k. year_sum m f n (suc k))) ≤ n * b
  unfolding year_sum
  total_small y =
      rw (sum_swap y n (λ k c. cond (eqb (calendar_year m c) (suc k)) (f c) (pos 0)))
      (sum_nat_abs n b (λ c. counted y (calendar_year m c) (f c))
      (λ c l. omega (arith, once y (calendar_year m c) (f c), small c l)))

  year_at_lem : (k : ℕ) → k < 38 → nat_abs (at (years m f n) k) ≤ n * b
  year_at_lem k h = rw (get_d_tabulate 38 (λ k. year_sum m f n (suc k)) k (pos 0) h) (year_sum_small m f n b (suc k) small)

  total_at : (y : ℕ) → y ≤ 38 → nat_abs (sum y (at (years m f n))) ≤ n * b
  total_at y h =
      rw (sum_cong y {f = at (years m f n)} {g = λ k. year_sum m f n (suc k)} (λ k l. get_d_tabulate 38 (λ k. year_sum m f n (suc k)) k (pos 0) (omega arith)))
      (total_small y)

-- ---- of an output

sum_fits : (x y : ℤ) (n : ℕ) → n ≤ 780 → nat_abs x ≤ n * (2 * 10 ^ 15) → nat_abs y ≤ n * (2 * 10 ^ 15) → fits64 (x +ℤ y) ≡ true
sum_fits x y n h a b = below_fits (x +ℤ y) (omega (arith, nat_abs-+ℤ x y))

alone_fits : (x : ℤ) (n : ℕ) → n ≤ 780 → nat_abs x ≤ n * (2 * 10 ^ 15) → fits64 x ≡ true
alone_fits x n h a = below_fits x (omega arith)

pub small_printable : (m : ℕ) (out : List ℤ) → m ≤ 20 → Small m out → Printable m (tally_of m out)
small_printable m out h small =
    let few = few_cells m h in
    let r = small_entry m out small 0 (omega arith) in
    let s = small_entry m out small 1 (omega arith) in
    let f = entry_at 0 out in
    let g = entry_at 1 out in
    let n = cells m in
    let b = 2 * 10 ^ 15 in
    rw (none_lost m out h small)
    (record {
      first = λ k l. alone_fits (at (years m f n) k) n few (year_at_lem m f n b r k (omega arith));
      second = λ k l. alone_fits (at (years m g n) k) n few (year_at_lem m g n b s k (omega arith));
      both = λ k l. sum_fits (at (years m f n) k) (at (years m g n) k) n few (year_at_lem m f n b r k (omega arith)) (year_at_lem m g n b s k (omega arith));
      first_total = λ y l. alone_fits (sum y (at (years m f n))) n few (total_at m f n b r y (omega arith));
      second_total = λ y l. alone_fits (sum y (at (years m g n))) n few (total_at m g n b s y (omega arith));
      total = sum_fits (sum (2 * m - 2) (at (years m f n))) (sum (2 * m - 2) (at (years m g n))) n few (total_at m f n b r (2 * m - 2) (omega arith)) (total_at m g n b s (2 * m - 2) (omega arith));
    })
