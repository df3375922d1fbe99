-- A year's forecast under plain DCL against its unrounded paid chain-ladder reserve. Assumes
-- nothing.
use Rattle.std.specs.Prelude.{◌≡◌, List, ℕ, ◌+◌, ◌-◌, ◌≤◌, ℤ}
use Rattle.std.proofs.Common.{ap}
use native.Mathlib.Omega.{arith}
use Rattle.std.proofs.Math.IntN.{pos}
use Rattle.integers.specs.Parts.{◌⩽◌}
use Rattle.integers.specs.Absolute.{abs_of}
use Rattle.model.specs.Lists.{at}
use Rattle.model.specs.Rounding.{S}
use Rattle.model.specs.Shares.{latest, g, b_list, ultimate}
use Rattle.model.specs.PaidReserve.{whole, distance, AtMost, G, H, reserve, bound}
use Rattle.rounding.specs.RoundingLaws.{S_pos}
use Rattle.ladder.specs.SharesLaws.{Sound, g_range}
use Rattle.solver.specs.DelaysLaws.{Solves}
use Rattle.paid_reserve.specs.ExactShares.{Apart}
use Rattle.paid_reserve.specs.YearSum.{year_cells}
use Rattle.paid_reserve.specs.PaidReserve as Year
use Rattle.paid_reserve.specs.PaidReserve.{bound_algebra, fraction_algebra}

-- a year i of a sound paid triangle
module _ (m : ℕ) (few : m ≤ 20) (paid : List ℤ) (ok : Sound m paid) (i : ℕ) (h : 1 ≤ i) (l : i ≤ m) where
  -- its latest sum, ultimate, rounded share, and unrounded share
  abbrev c : ℤ
  c = latest m paid i

  abbrev w : ℤ
  w = ultimate m paid i

  abbrev x : ℤ
  x = g m paid (m - i)

  abbrev t : ℤ
  t = (G m paid (m - i)).upper

  abbrev u : ℤ
  u = (G m paid (m - i)).lower

  at_x : Apart (i - 1) x (record { upper = t; lower = u })
  at_x = Year.at_x m few paid ok i h l

  module _ (b p : List ℤ) (solves : Solves m b (b_list m paid) p) (b-S : at b 0 ⩽ S) where
    -- plain DCL, for any delays that solve the system
    pub any_delays : AtMost (distance (whole (year_cells m b p w i)) (reserve m paid i)) (bound m paid i)
    unfolding H reserve bound
    any_delays =
        let e : i ≡ i - 1 + 1 = omega arith in
        let x_pos = Year.x_pos m few paid ok i h l in
        fraction_algebra S x t u c (year_cells m b p w i) (pos i) (i - 1) x_pos at_x.upper_pos
        (bound_algebra S x t u c w (year_cells m b p w i) (pos i) (i - 1) (ap pos e) (Year.few_years m few paid ok i h l) S_pos x_pos
        (g_range m paid ok (m - i) (omega arith)).1 at_x.upper_pos at_x.at_most-S (Year.c_low m few paid ok i h l)
        (rw (abs_of (Year.ultimate_nonneg m few paid ok i h l)) at (Year.any_base m few paid ok i h l b p solves b-S w))
        (Year.ultimate_near m few paid ok i h l) at_x.apart)
