-- `head` meets its contract. Assumes nothing.
use Rattle.std.proofs.Common.{◌*◌, ◌∙◌}
use Rattle.records.specs.Bytes.{number, from_eight, head_at}
use Rattle.records.proofs.fields.head.Goals as goal

pub returns : goal.returns
returns c =
    let part = rw c.unwrap.ensures at c.try_into.ensures.1 in
    head_at _ _ _ (number c.args.file.now c.type_inv.file 8 (16 * c.args.k) c.unwrap.result part.same (c.from_le_bytes-w.ensures ∙ from_eight _))
