-- `pardesul_read_set` meets its contract: a refusal stores nothing, and an accepted file stores its
-- set. Assumes nothing.
use Rattle.std.proofs.Common.{◌≡◌, refl, sym, ap, ◌∙◌, Bool, true, false, cond}
use Rattle.std.specs.Int.{from_bool}
use Rattle.model.specs.Records.{set_of}
use Rattle.model.specs.declared.ReadAnswer.{ReadAnswer}
use Rattle.triangles.specs.LentLaws.{read_no, read_size, read_yes}
use Rattle.c_api.proofs.sets.pardesul_read_set.Goals as goal

as_number : (t : Bool) → from_bool t ≡ cond t 1 0
as_number true = refl
as_number false = refl

pub returns-then-refusal-ne0-clause-value : goal.returns-then-refusal-ne0-clause-value
returns-then-refusal-ne0-clause-value c =
    let e = c.refusal_number-refusal.ensures in
    e ∙ ap (λ (a : ReadAnswer). a.refusal) (read_no _ _ _ _ c.read_cells.ensures (λ z. c.if-refusal-ne0.true (e ∙ z)))

pub has_incurred-requires : goal.has_incurred-requires
has_incurred-requires c = read_size _ _ _ _ c.read_cells.ensures (sym c.refusal_number-refusal.ensures ∙ c.if-refusal-ne0.false)

pub returns : goal.returns
unfolding set_of
returns c =
    let e = read_yes _ _ _ _ c.read_cells.ensures (sym c.refusal_number-refusal.ensures ∙ c.if-refusal-ne0.false) in
    rw (← e)
    record {
      value = refl;
      line_after = c.line.ensures;
      has_incurred_after = rw c.has_incurred.ensures (as_number _);
      counts_after = c.copy_kind.ensures;
      paid_after = c.copy_kind-2.ensures;
      incurred_after = c.copy_kind-3.ensures;
    }
