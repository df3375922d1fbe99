use Rattle.std.proofs.Common.{◌≡◌, true}
use Rattle.model.specs.Lists.{every}
use Rattle.records.specs.OneRecord.{well_formed, ranged}
use Rattle.triangles.specs.Keys.{fresh}
use Rattle.triangles.proofs.Counting.{Flags, Cells}
use Rattle.triangles.proofs.cells.read_records.Given as goal

abbrev pub invariant-loop-k : goal.invariant-loop-k
invariant-loop-k l = record {
  formed : every l.k (well_formed l.m l.kinds l.line l.file) ≡ true;
  flags : Flags l.file l.k l.seen;
  cells : Cells l.file l.k l.set;
  once : l.once ≡ every l.k (fresh l.file);
  ranged : l.ranged ≡ every l.k (ranged l.file);
}
