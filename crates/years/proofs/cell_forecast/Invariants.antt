use Rattle.std.proofs.Common.{◌≡◌, ◌-◌}
use Rattle.model.specs.Lent.{triangle_in}
use Rattle.model.specs.Overlay.{overlay}
use Rattle.cells.specs.CellOf.{sums_from, years_entries}
use Rattle.years.specs.Ready.{year_weights}
use Rattle.years.proofs.cell_forecast.Given as goal

abbrev pub invariant-loop-n : goal.invariant-loop-n
invariant-loop-n l = record {
  written : l.out ≡ overlay l.fn.out 0 (years_entries l.m l.v (year_weights l.m (triangle_in 0 l.set) l.fn.basis l.shares l.counts.g l.counts.latest) l.shares l.p l.n);
  left : l.unreported ≡ sums_from l.m (l.m - l.n) l.shares l.p;
  estimated : l.fn.basis ≡ 1 → l.s ≡ l.shares;
}
