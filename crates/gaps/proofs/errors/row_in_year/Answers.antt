-- `errors::row_in_year` meets its contract: the row has one cell in the year, or none. Assumes
-- nothing.
use Rattle.std.proofs.Common.{◌≡◌, suc, ◌+◌, ◌-◌, ◌*◌, sym, ◌∙◌, ap, arith, rules, w64, SFits, to_z-of_z}
use Rattle.model.specs.Lists.{at}
use Rattle.model.specs.Records.{cell}
use Rattle.gaps.specs.ErrorsLaws.{none_picked, one_picked}
use Rattle.gaps.proofs.errors.row_in_year.Goals as goal

pub returns-then-end-k : goal.returns-then-end-k
returns-then-end-k c = let a = c.args in sym (none_picked (suc a.k) a.end (cell a.d.now (suc a.k)) a.n (λ j h z. omega (arith, c.if-end-k.true)))

pub returns-then-n-j : goal.returns-then-n-j
returns-then-n-j c = let a = c.args in sym (none_picked (suc a.k) a.end (cell a.d.now (suc a.k)) a.n (λ j h z. omega (arith, c.if-n-j.true, c.if-end-k.false)))

pub returns : goal.returns
returns c =
    let a = c.args in
    let j = a.end - 1 - a.k in
    let e : 20 * a.k + j ≡ 20 * (suc a.k - 1) + j = omega arith in
    let fits : SFits w64 (at a.d.now (20 * a.k + j)) = search rules in
    to_z-of_z fits ∙ ap (at a.d.now) e ∙ sym (one_picked (suc a.k) a.end (cell a.d.now (suc a.k)) a.n j (omega (arith, c.if-n-j.false)) (omega (arith, c.if-end-k.false)))
