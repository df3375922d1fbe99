use Rattle.std.proofs.Common.{◌≡◌, pos}
use Rattle.model.specs.Lists.{listed}
use Rattle.row_bases.specs.Bases.{number, left_at}
use Rattle.row_bases.proofs.bases.leftovers.Given as goal

abbrev pub invariant-loop-k : goal.invariant-loop-k
invariant-loop-k l = l.out ≡ listed 20 l.k (left_at l.m (number l.method) l.u l.c l.w) (pos 0)
