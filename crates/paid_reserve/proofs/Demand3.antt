-- Demand 3: the distance to the reserve of a set's forecast as it is written. Assumes nothing.
use Rattle.std.specs.Prelude.{◌≡◌, List, ℕ, ◌≤◌, ℤ, ◌+ℤ◌}
use Rattle.std.proofs.Common.{sym, subst, arith}
use Rattle.std.proofs.Math.Path.{ap₂}
use Rattle.integers.specs.Parts.{◌⩽◌}
use Rattle.integers.specs.Sums.{sum_cong}
use Rattle.model.specs.Lists.{at}
use Rattle.model.specs.Rounding.{S}
use Rattle.model.specs.Shares as Shares
use Rattle.model.specs.Shares.{b_list, ultimate}
use Rattle.model.specs.RowBases as RowBases
use Rattle.model.specs.RowBases.{row_base}
use Rattle.model.specs.Cells.{s_list, rbns, ibnr, output_from}
use Rattle.model.specs.CellsLaws.{written_rbns, written_ibnr}
use Rattle.model.specs.PaidReserve.{whole, distance, AtMost, reserve, bound, year_sum, NearReserves}
use Rattle.model.specs.declared.TriangleSet.{TriangleSet}
use Rattle.chain_ladder.specs.DevelopedLaws.{Shared, counts_sound, paid_sound}
use Rattle.ladder.specs.SharesLaws.{Sound, at_b_list, g_range}
use Rattle.solver.specs.DelaysLaws.{Solves}
use Rattle.paid_reserve.specs.YearSum.{cell_sum, year_cells}
use Rattle.paid_reserve.proofs.AnyDelays.{any_delays}

-- ---- of a set whose counts and paid are sound, as its forecast is written
module _ (m : ℕ) (lo : 2 ≤ m) (few : m ≤ 20) (s : TriangleSet) (before : List ℤ) where
  abbrev b : List ℤ
  b = b_list m s.counts

  -- the year's sum of the output is that of its cells
  year_written : (p : List ℤ) (i : ℕ) → 1 ≤ i → i ≤ m → year_sum m (output_from m s p 0 1 before) i ≡ year_cells m b p (ultimate m s.paid i) i
  unfolding year_sum year_cells cell_sum rbns ibnr s_list row_base RowBases.U
  year_written p i h l =
      sum_cong m
      (λ j u. ap₂ (λ (x y : ℤ). x +ℤ y) (written_rbns m i j h (omega arith) s p 0 1 before l) (written_ibnr m i j h (omega arith) s p 0 1 before l))

  module _ (counts : Sound m s.counts) (paid : Sound m s.paid) where
    b-S : at b 0 ⩽ S
    unfolding Shares.b
    b-S = rw (at_b_list m s.counts few 0 (omega arith)) (g_range m s.counts counts 0 (omega arith)).1

    near : (p : List ℤ) → Solves m b (b_list m s.paid) p → NearReserves m s.paid (output_from m s p 0 1 before)
    near p solves i h l =
        subst (λ (z : ℤ). AtMost (distance (whole z) (reserve m s.paid i)) (bound m s.paid i)) (sym (year_written p i h l))
        (any_delays m few s.paid paid i h l b p solves b-S)

-- ---- of every set that passes questions 9 to 11
module _ (m : ℕ) (s : TriangleSet) (h : Shared m s.counts s.paid) where
  -- demand 3, of its forecast under method 0, basis 1 as it is written, by any delays that solve it
  pub demand_3 : (p before : List ℤ) → Solves m (b_list m s.counts) (b_list m s.paid) p → NearReserves m s.paid (output_from m s p 0 1 before)
  demand_3 p before solves = near m h.counts.least h.counts.small.few s before (counts_sound h) (paid_sound h) p solves
