-- Where 01 says a thing twice, the two agree: for every m from 2 to 20 by computation, or by a law.
use Rattle.std.specs.Prelude.{ℕ, suc, ◌+◌, ◌-◌, ◌*◌, ◌≤◌, ◌≡◌, Bool, ◌&&◌, cond, List, T, eqb, ℤ, pos, ◌+ℤ◌, length}
use Rattle.std.proofs.Common.{arith, ◌∙◌, ap, ap₂, le-leb}
use borrow.Author.Tests.{eqb-true}
use Rattle.integers.specs.Order.{so_true}
use Rattle.integers.specs.Sums.{sum_nothing}
use Rattle.model.specs.Lists.{every, total}
use Rattle.model.specs.ListsLaws.{every_at}
use Rattle.model.specs.Records.{set_of}
use Rattle.model.specs.Delays.{delays_of}
use Rattle.model.specs.Cells.{place_of, year_of, delay_of, size, rbns, ibnr, output_from}
use Rattle.model.specs.CellsLaws.{written_rbns, written_ibnr}
use Rattle.model.specs.PaidReserve.{year_sum}
use Rattle.model.specs.BackTest.{compared, cell_number}
use Rattle.model.specs.Calls.{forecast_refusal, forecast_output}
use Rattle.model.specs.CallsLaws.{if_accepted_lem}
use Rattle.model.specs.declared.TriangleSet.{TriangleSet}

-- 01, Back-test: how many cells are compared, which is cell_number
unfoldable pub compared_cells : ℕ → ℕ → ℕ
compared_cells m n = total n (λ k. total n (λ j. cond (compared m n (suc k) j) 1 0))

-- for m = k + 3 and c from 1 to m - 2
unfoldable pub numbers_agree : ℕ → Bool
numbers_agree k = every (k + 1) (λ c. eqb (compared_cells (k + 3) (k + 2 - c)) (cell_number (c + 1) (k + 2 - c)))

pub cell_numbers : T (every 18 numbers_agree)
unfolding every total compared cell_number compared_cells numbers_agree
cell_numbers = tt

-- as many cells are compared as their number says (01, Back-test)
pub cells_compared : (m c : ℕ) → m ≤ 20 → 1 ≤ c → c + 2 ≤ m → compared_cells m (m - c) ≡ cell_number c (m - c)
unfolding numbers_agree
cells_compared m c few some most =
    let e : m - 3 + 3 ≡ m = omega arith in
    let d : m - 3 + 2 - (c - 1) ≡ m - c = omega arith in
    let u : c - 1 + 1 ≡ c = omega arith in
    let a = every_at numbers_agree 18 (m - 3) (so_true _ cell_numbers) (omega arith) in
    let b = every_at (λ c. eqb (compared_cells (m - 3 + 3) (m - 3 + 2 - c)) (cell_number (c + 1) (m - 3 + 2 - c))) (m - 3 + 1) (c - 1) a (omega arith) in
    rw (e, d, u) at (eqb-true (compared_cells (m - 3 + 3) (m - 3 + 2 - (c - 1))) (cell_number (c - 1 + 1) (m - 3 + 2 - (c - 1))) b)

-- 01, Cell forecasts: both entries of cell (i,j), read back from their places as year and delay
unfoldable pub place_agrees : ℕ → ℕ → ℕ → Bool
place_agrees m i j =
    eqb (year_of m (place_of m i j)) i && eqb (delay_of m (place_of m i j)) j && eqb (year_of m (place_of m i j + 1)) i && eqb (delay_of m (place_of m i j + 1)) j

unfoldable pub places_agree : ℕ → Bool
places_agree m = every m (λ k. every (2 * m - 1) (λ j. place_agrees m (suc k) j)) && eqb (place_of m m (2 * m - 2) + 2) (size m)

pub places : T (every 19 (λ k. places_agree (k + 2)))
unfolding every place_agrees places_agree
places = tt

-- 01, Cell forecasts: demand 3's sum of year 1 is 0, its cells up to delay m - 1 being known ones
written_one : (m : ℕ) (s : TriangleSet) (p : List ℤ) (method basis : ℕ) (before : List ℤ) → year_sum m (output_from m s p method basis before) 1 ≡ pos 0
unfolding year_sum rbns ibnr
written_one m s p method basis before =
    sum_nothing m
    (λ j u.
    let known = le-leb (1 + j) m (omega arith) in
    let x : rbns m s p method basis 1 j ≡ pos 0 = rw known in
    let y : ibnr m s p method 1 j ≡ pos 0 = rw known in
    ap₂ (λ (x y : ℤ). x +ℤ y)
    (written_rbns m 1 j (omega arith) (omega arith) s p method basis before (omega arith) ∙ x)
    (written_ibnr m 1 j (omega arith) (omega arith) s p method basis before (omega arith) ∙ y))

pub year_one : (m : ℕ) (f : List ℕ) (method basis : ℕ) (before : List ℤ) → forecast_refusal m f method basis (length before) ≡ 0 → year_sum m (forecast_output m f method basis before) 1 ≡ pos 0
unfolding forecast_output
year_one m f method basis before accepted =
    let s = set_of m f in
    ap (λ (out : List ℤ). year_sum m out 1) (if_accepted_lem (forecast_refusal m f method basis (length before)) _ _ accepted)
    ∙ written_one m s (delays_of m s) method basis before
