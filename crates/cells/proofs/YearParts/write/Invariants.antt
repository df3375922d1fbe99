use Rattle.std.proofs.Common.{◌≡◌, ◌+◌, ◌-◌, ◌*◌, ◌≤◌}
use Rattle.model.specs.Overlay.{overlay}
use Rattle.cells.specs.CellOf.{first_of}
use Rattle.cells.proofs.YearParts.write.Given as goal

abbrev pub invariant-loop-j : goal.invariant-loop-j
invariant-loop-j l = (l.self.m + 1 - l.self.i ≤ l.j) × (l.j ≤ 2 * l.self.m - 1) × (l.out ≡ overlay l.fn.out l.from (first_of l.self (2 * l.j)))
