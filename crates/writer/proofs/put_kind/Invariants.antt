use Rattle.std.proofs.Common.{suc, ◌-◌}
use Rattle.writer.specs.Written.{year_bytes}
use Rattle.writer.proofs.Chained.{Filled}
use Rattle.writer.proofs.put_kind.Given as goal

abbrev pub invariant-loop-k : goal.invariant-loop-k
invariant-loop-k l = Filled (λ i. year_bytes l.line l.kind l.cells (suc i) (l.m - i)) l.initial.out l.a l.k l.out l.next
