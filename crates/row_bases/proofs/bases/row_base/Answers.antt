-- `row_bases::bases::row_base` meets its contract. Assumes nothing.
use Rattle.std.proofs.Common.{sym, ◌∙◌, ap, ◌*◌, ◌^◌, arith, ℕ, ℤ, ◌-ℤ◌, w64, SFits, of_z, to_z-of_z}
use Rattle.arithmetic.specs.Capped.{capped_within}
use Rattle.rounding.specs.Words.{fits_abs, equal_words}
use Rattle.row_bases.specs.Bases.{number, Year}
use Rattle.row_bases.specs.BasesLaws.{base_paid, base_incurred, base_settled, base_open, incurred_small, reserve_small, reserve_pos}
use Rattle.row_bases.proofs.bases.row_base.Goals as goal

module _ {method : ℕ} {u w c : ℤ} (z : Year method u w c) where
  incurred_fits : SFits w64 (w -ℤ c)
  incurred_fits = fits_abs (omega (arith, incurred_small z))

  reserve_fits : SFits w64 (u -ℤ c)
  reserve_fits = fits_abs (omega (arith, reserve_small z))

pub returns-in-Dcl : goal.returns-in-Dcl
returns-in-Dcl c =
    rw (to_z-of_z c.ranges.u, base_paid (number c.args.method) c.args.u1 c.args.w1 c.args.u c.args.w c.args.c (ap number c.in-Dcl.is)) (sym (capped_within (2 * 10 ^ 14) c.args.u c.requires.year.high.0))

pub returns-in-Bdcl : goal.returns-in-Bdcl
returns-in-Bdcl c =
    (rw (to_z-of_z c.ranges.u1, to_z-of_z c.ranges.w, to_z-of_z c.ranges.w1) at c.mul_div_capped.ensures)
    ∙ rw (base_incurred (number c.args.method) c.args.u1 c.args.w1 c.args.u c.args.w c.args.c (ap number c.in-Bdcl.is))

pub returns-in-Idcl : goal.returns-in-Idcl
returns-in-Idcl c =
    let e = equal_words c.ranges.u c.ranges.c c.if-u-c.true in
    rw (to_z-of_z c.ranges.u, base_settled (number c.args.method) c.args.u1 c.args.w1 c.args.u c.args.w c.args.c (ap number c.in-Idcl.is) e) (sym (capped_within (2 * 10 ^ 14) c.args.u c.requires.year.high.0))

pub returns-in-Idcl-2 : goal.returns-in-Idcl-2
returns-in-Idcl-2 c =
    let above = reserve_pos c.requires.year (λ e. c.if-u-c.false (ap (of_z w64) e)) in
    (rw (to_z-of_z c.ranges.u, to_z-of_z c.ranges.w, to_z-of_z c.ranges.c, to_z-of_z (incurred_fits c.requires.year), to_z-of_z (reserve_fits c.requires.year)) at c.mul_div_capped-in-Idcl-2.ensures)
    ∙ rw (base_open (number c.args.method) c.args.u1 c.args.w1 c.args.u c.args.w c.args.c (ap number c.in-Idcl-2.is) above)
