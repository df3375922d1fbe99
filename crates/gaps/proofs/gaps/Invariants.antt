use Rattle.std.proofs.Common.{◌≡◌, ◌-◌, ◌*◌, pos}
use Rattle.model.specs.Lists.{listed}
use Rattle.model.specs.Lent.{triangle_in}
use Rattle.cells.specs.CellOf.{sums_from}
use Rattle.gaps.specs.Gaps.{cell_from, gap_at}
use Rattle.gaps.proofs.gaps.Given as goal

abbrev pub invariant-loop-k : goal.invariant-loop-k
invariant-loop-k l = record {
  made : l.d ≡ listed 400 (20 * l.k) (gap_at l.m l.n (cell_from l.n (triangle_in 0 l.set) l.fn.basis l.shares l.counts.g l.counts.latest l.v l.p) (triangle_in 1 l.set)) (pos 0);
  left : l.unreported ≡ sums_from l.n (l.n - l.k) l.shares l.p;
  estimated : l.fn.basis ≡ 1 → l.s ≡ l.shares;
}
