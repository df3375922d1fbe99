-- `forecast::read_to_forecast` meets its contract: the reader's questions, and then 6. Assumes
-- nothing.
use Rattle.std.proofs.Common.{refl, sym, ◌∙◌, ap, arith}
use Rattle.model.specs.Questions.{q6}
use Rattle.model.specs.CallsLaws.{file_no, six_no, six_yes}
use Rattle.refusals.specs.RefusalsLaws.{not_accepted, handed_on}
use Rattle.chain_ladder.specs.Accepted.{accepted}
use Rattle.chain_ladder.specs.Valid.{few}
use Rattle.forecast.proofs.read_to_forecast.Goals as goal

pub returns-in_err-read_cells : goal.returns-in_err-read_cells
returns-in_err-read_cells c =
    let e = c.in_err-read_cells.ensures.result in
    rw (handed_on _ _ c.from_residual.ensures.1) (record { refusal = e ∙ sym (file_no _ _ _ _ (λ z. not_accepted _ (e ∙ z))); holds = λ z. absurd (not_accepted _ z) })

pub has_incurred-has_incurred-requires : goal.has_incurred-has_incurred-requires
has_incurred-has_incurred-requires c = few _ _ (accepted _ _ c.in_ok-read_cells.ensures refl).valid

pub returns-then-not-q6 : goal.returns-then-not-q6
returns-then-not-q6 c =
    let a = c.args in
    let asked = c.if-not-q6.ensures ∙ ap (λ has. q6 has a.method a.basis) c.has_incurred-has_incurred.ensures in
    record { refusal = sym (six_no _ _ _ _ (accepted _ _ c.in_ok-read_cells.ensures refl).read (sym asked)); holds = λ z. absurd (omega arith) }

pub returns : goal.returns
returns c =
    let a = c.args in
    let file = accepted _ _ c.in_ok-read_cells.ensures refl in
    let asked = c.if-not-q6.ensures ∙ ap (λ has. q6 has a.method a.basis) c.has_incurred-has_incurred.ensures in
    record { refusal = sym (six_yes _ _ _ _ file.read (sym asked)); holds = λ _. file.is }
