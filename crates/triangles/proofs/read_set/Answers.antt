-- `read_set` meets its contract: what `read_cells` leaves, by value. Assumes nothing.
use Rattle.std.proofs.Common.{refl}
use Rattle.model.specs.Records.{set_of}
use Rattle.refusals.specs.RefusalsLaws.{not_accepted}
use Rattle.triangles.specs.LentLaws.{read_no, read_size, read_yes}
use Rattle.triangles.proofs.read_set.Goals as goal

pub returns-in-Err : goal.returns-in-Err
returns-in-Err c = rw (c.refused.ensures, c.from.ensures) (read_no _ _ _ _ c.in-Err.ensures (not_accepted c.in-Err.refusal))

pub has_incurred-requires : goal.has_incurred-requires
has_incurred-requires c = read_size _ _ _ _ c.in_default.ensures refl

pub returns : goal.returns
unfolding set_of
returns c =
    rw (c.line.ensures, c.has_incurred.ensures, c.copy_kind.ensures, c.copy_kind-2.ensures, c.copy_kind-3.ensures)
    (read_yes _ _ _ _ c.in_default.ensures refl)
