-- `probes::probe_share` meets its contract. Assumes nothing.
use Rattle.std.proofs.Common.{◌≡◌, true, ◌*◌, ◌^◌, arith, lit<, pos, to_z-of_z}
use Rattle.model.specs.Questions.{within}
use Rattle.model.specs.Tests.{passed}
use Rattle.probes.specs.Probes.{up_to}
use Rattle.probes.proofs.Tests.{up_to_is, range_is, above_zero}
use Rattle.probes.proofs.probe_share.Goals as goal
use Rattle.probes.proofs.probe_share.Goals.{Else-not-lies_within, Else-not-lies_within-2, Else-not-lies_within-3}

g_in : (c : Else-not-lies_within) → within (pos 0) (pos (4 * 10 ^ 9)) c.args.g ≡ true
g_in c = passed c.if-not-lies_within.false-raw (rw (to_z-of_z c.ranges.g) at c.lies_within.ensures)

a_in : (c : Else-not-lies_within-2) → up_to (4 * 10 ^ 12) c.args.a ≡ true
a_in c = passed c.if-not-lies_within-2.false-raw (rw (to_z-of_z c.ranges.a) at c.lies_within-2.ensures)

b_in : (c : Else-not-lies_within-3) → within (pos 1) (pos (4 * 10 ^ 12)) c.args.b ≡ true
b_in c = passed c.if-not-lies_within-3.false-raw (rw (to_z-of_z c.ranges.b) at c.lies_within-3.ensures)

pub mul_div_capped-requires : goal.mul_div_capped-requires
mul_div_capped-requires c =
    let g = range_is 0 (4 * 10 ^ 9) c.args.g (g_in c.before.before.before.before) in
    let b = range_is 1 (4 * 10 ^ 12) c.args.b (b_in c) in
    rw (to_z-of_z c.ranges.g, to_z-of_z c.ranges.a, to_z-of_z c.ranges.b) (
      omega (arith, g.to),
      omega (arith, up_to_is (4 * 10 ^ 12) c.args.a (a_in c.before.before)),
      above_zero b (lit< tt),
      omega (arith, b.to),
      lit< tt,
    )
