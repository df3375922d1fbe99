use Rattle.std.proofs.Common.{◌≡◌, ℕ, ◌+◌, ◌-◌, ◌*◌, ◌≤◌, ◌<◌, ℤ, pos}
use Rattle.model.specs.Lists.{listed}
use Rattle.model.specs.Lent.{triangle_in}
use Rattle.cells.specs.CellOf.{year_cell}
use Rattle.gaps.specs.Gaps.{gap_from}
use Rattle.gaps.proofs.row_gaps.Given as goal

-- where f holds the year's gaps, the first j are made
abbrev pub invariant-loop-j : goal.invariant-loop-j
invariant-loop-j l = (l.year.m + 1 - l.year.i ≤ l.j) × (l.j ≤ 20)
    × ((f : ℕ → ℤ) → l.fn.d ≡ listed 400 (20 * (l.year.i - 1)) f (pos 0)
    → ((j : ℕ) → j < 20 → f (20 * (l.year.i - 1) + j) ≡ gap_from l.m l.year.m (year_cell l.year j) (triangle_in 1 l.set) l.year.i j) → l.d ≡ listed 400 (20 * (l.year.i - 1) + l.j) f (pos 0))
