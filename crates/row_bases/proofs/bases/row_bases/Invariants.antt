use Rattle.std.proofs.Common.{◌≡◌, true, ◌*◌, ◌^◌, leb, pos, nat_abs}
use Rattle.model.specs.Lists.{listed, every}
use Rattle.row_bases.specs.Bases.{number, base_at}
use Rattle.row_bases.proofs.bases.row_bases.Given as goal

abbrev pub invariant-loop-k : goal.invariant-loop-k
invariant-loop-k l = (every l.k (λ i. leb (nat_abs (base_at l.m (number l.method) l.u l.c l.w i)) (2 * 10 ^ 14)) ≡ true) × (l.v ≡ listed 20 l.k (base_at l.m (number l.method) l.u l.c l.w) (pos 0))
