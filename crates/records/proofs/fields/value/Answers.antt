-- `value` meets its contract. Assumes nothing.
use Rattle.std.proofs.Common.{◌+◌, ◌*◌, ap, ◌∙◌, FitsSigned, w64, rules}
use Rattle.std.proofs.Math.Facts.{to_z-of_z}
use Rattle.model.specs.Records.{signed, value_at}
use Rattle.records.specs.Bytes.{from_eight, least_part, signed_is}
use Rattle.records.proofs.fields.value.Goals as goal

pub returns : goal.returns
unfolding value_at
returns c =
    let part = rw c.unwrap.ensures at c.try_into.ensures.1 in
    let s : FitsSigned w64 c.from_le_bytes.result = search rules in
    to_z-of_z s ∙ c.from_le_bytes.ensures ∙ signed_is _ ∙ ap signed (from_eight _ ∙ least_part 8 c.args.file.now (16 * c.args.k + 8) c.unwrap.result part.same)
