-- `tally_text::write_field` meets its contract: a space, then the amount. Assumes nothing.
use Rattle.std.proofs.Common.{arith}
use Rattle.std.proofs.lemmas.Int.{to_z-of_z}
use Rattle.std.specs.Int.{w64}
use Rattle.text.specs.Written.{written_then}
use Rattle.tally_text.specs.TallyTextLaws.{field_in, field_in_size}
use Rattle.tally_text.proofs.write_field.Goals as goal

pub put-next-requires : goal.put-next-requires
put-next-requires c = omega (arith, field_in_size c.args.width c.args.value)

pub write_aligned-requires : goal.write_aligned-requires
write_aligned-requires c = rw (to_z-of_z w64 _ c.ranges.value) (omega (arith, field_in_size c.args.width c.args.value, c.put-next.ensures.end))

pub returns : goal.returns
unfolding field_in
returns c = written_then c.put-next.ensures (rw (to_z-of_z w64 _ c.ranges.value) at c.write_aligned.ensures)
