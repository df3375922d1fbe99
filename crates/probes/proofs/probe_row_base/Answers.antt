-- `probes::probe_row_base` meets its contract. Assumes nothing.
use Rattle.std.proofs.Common.{w64, ◌≡◌, ap, ◌∙◌, true, ◌*◌, ◌^◌, arith, leb, lit<, pos, to_z-of_z, le-leb}
use Rattle.model.specs.Questions.{within}
use Rattle.model.specs.Tests.{passed}
use Rattle.probes.specs.Probes.{up_to, as_number, row_base}
use Rattle.probes.proofs.Tests.{up_to_is, range_is, above_zero}
use Rattle.probes.proofs.probe_row_base.Goals as goal
use Rattle.probes.proofs.probe_row_base.Goals.{Else-cap-gt210000000000000, Else-not-lies_within, Else-not-lies_within-2, Else-not-lies_within-3}

u_in : (c : Else-not-lies_within) → up_to (21 * 10 ^ 13) c.args.u ≡ true
u_in c = passed c.if-not-lies_within.false-raw (rw (to_z-of_z c.ranges.u) at c.lies_within.ensures)

w_in : (c : Else-not-lies_within-2) → up_to (21 * 10 ^ 13) c.args.w ≡ true
w_in c = passed c.if-not-lies_within-2.false-raw (rw (to_z-of_z c.ranges.w) at c.lies_within-2.ensures)

d_in : (c : Else-not-lies_within-3) → within (pos 1) (pos (21 * 10 ^ 13)) c.args.d ≡ true
d_in c = passed c.if-not-lies_within-3.false-raw (rw (to_z-of_z c.ranges.d) at c.lies_within-3.ensures)

cap_in : (c : Else-cap-gt210000000000000) → leb c.args.cap (21 * 10 ^ 13) ≡ true
cap_in c = le-leb _ _ c.if-cap-gt210000000000000.false

pub mul_div_capped-requires : goal.mul_div_capped-requires
mul_div_capped-requires c =
    let o = c.before in
    let d = range_is 1 (21 * 10 ^ 13) o.args.d (d_in o) in
    rw (to_z-of_z o.ranges.u, to_z-of_z o.ranges.w, to_z-of_z o.ranges.d) (
      omega (arith, up_to_is (21 * 10 ^ 13) o.args.u (u_in o.before.before.before.before)),
      omega (arith, up_to_is (21 * 10 ^ 13) o.args.w (w_in o.before.before)),
      above_zero d (lit< tt),
      omega (arith, d.to),
      omega arith,
    )

pub returns : goal.returns
unfolding row_base
returns c =
    let l = c.before.before in
    let o = l.before in
    rw (u_in o.before.before.before.before, w_in o.before.before, d_in o, cap_in l)
    (to_z-of_z {w = w64} (record { sfits = c.unwrap_or.type_inv }) ∙ c.unwrap_or.ensures
    ∙ ap as_number (rw (to_z-of_z o.ranges.u, to_z-of_z o.ranges.w, to_z-of_z o.ranges.d) at c.mul_div_capped.ensures))
