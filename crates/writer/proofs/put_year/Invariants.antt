use Rattle.writer.specs.Written.{cell_bytes}
use Rattle.writer.proofs.Chained.{Filled}
use Rattle.writer.proofs.put_year.Given as goal

abbrev pub invariant-loop-j : goal.invariant-loop-j
invariant-loop-j l = Filled (cell_bytes l.line l.kind l.cells l.year) l.initial.out l.a l.j l.out l.next
