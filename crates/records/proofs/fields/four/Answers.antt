-- `four` meets its contract. Assumes nothing.
use Rattle.std.proofs.Common.{◌∙◌}
use Rattle.records.specs.Bytes.{number, from_four}
use Rattle.records.proofs.fields.four.Goals as goal

pub returns : goal.returns
returns c =
    let part = rw c.unwrap.ensures at c.try_into.ensures.1 in
    number c.args.file.now c.type_inv.file 4 c.args.at c.unwrap.result part.same (c.from_le_bytes.ensures ∙ from_four _)
