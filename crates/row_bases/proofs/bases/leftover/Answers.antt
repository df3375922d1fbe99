-- `row_bases::bases::leftover` meets its contract. Assumes nothing.
use Rattle.std.proofs.Common.{◌≡◌, ⊎_elim, sym, ap, arith, ◌-ℤ◌, w64, SFits, of_z, to_z-of_z}
use Rattle.rounding.specs.Words.{fits_abs, equal_words}
use Rattle.row_bases.specs.Bases.{number}
use Rattle.row_bases.specs.BasesLaws.{left_none, left_settled, left_open, incurred_small, reserve_pos}
use Rattle.row_bases.specs.declared.Method.TheVariants.{Dcl, Bdcl}
use Rattle.row_bases.proofs.bases.leftover.Goals as goal

pub returns-in-Dcl : goal.returns-in-Dcl
returns-in-Dcl c =
    sym (left_none (number c.args.method) c.args.u c.args.w c.args.c
    (⊎_elim (λ (e : c.args.method ≡ Dcl). omega (arith, ap number e)) (λ (e : c.args.method ≡ Bdcl). omega (arith, ap number e)) c.in-Dcl.is))

pub returns-in-Idcl : goal.returns-in-Idcl
returns-in-Idcl c =
    let fits : SFits w64 (c.args.w -ℤ c.args.c) = fits_abs (omega (arith, incurred_small c.requires)) in
    let e = equal_words c.ranges.u c.ranges.c c.if-u-c.true in
    rw (to_z-of_z c.ranges.w, to_z-of_z c.ranges.c, to_z-of_z fits) (sym (left_settled (number c.args.method) c.args.u c.args.w c.args.c (ap number c.in-Idcl.is) e))

pub returns-in-Idcl-2 : goal.returns-in-Idcl-2
returns-in-Idcl-2 c =
    sym (left_open (number c.args.method) c.args.u c.args.w c.args.c (ap number c.in-Idcl-2.is) (reserve_pos c.requires (λ e. c.if-u-c.false (ap (of_z w64) e))))
