-- `tally_text::write_sums` meets its contract: three fields and a newline, one after the other.
-- Assumes nothing.
use Rattle.std.proofs.Common.{arith, List, ℕ, ℤ, SFits, to_z, of_z}
use Rattle.std.proofs.lemmas.Int.{to_z-of_z}
use Rattle.std.specs.Int.{w64}
use Rattle.text.specs.Written.{Written, written_then}
use Rattle.tally_text.specs.TallyTextLaws.{field_in, sums_in, sums_in_size}
use Rattle.year_tally.specs.TallyAddLaws.{fits_so}
use Rattle.tally_text.proofs.write_sums.Goals as goal

-- a field of z, where a local holds it
field_of : {before after : List ℕ} {a next : ℕ} {z : ℤ} (width : ℕ) → SFits w64 z → Written before a (field_in width (to_z w64 (of_z w64 z))) after next → Written before a (field_in width z) after next
field_of {z = z} width f w = rw (to_z-of_z w64 z f) at w

pub returns : goal.returns
unfolding sums_in
returns c =
    let one = field_of _ c.ranges.rbns c.write_field-second.ensures in
    let two = field_of _ c.ranges.ibnr c.write_field-third.ensures in
    let three = simp (to_z-of_z w64 _ c.ranges.rbns, to_z-of_z w64 _ c.ranges.ibnr, to_z-of_z w64 _ (fits_so _ c.requires.ibnr_value)) at c.write_field-end.ensures in
    written_then (written_then (written_then one two) three) c.put.ensures

pub overflow_add-both : goal.overflow_add-both
overflow_add-both c = rw (to_z-of_z w64 _ c.ranges.rbns, to_z-of_z w64 _ c.ranges.ibnr) (fits_so _ c.requires.ibnr_value)

pub write_field-second-requires : goal.write_field-second-requires
write_field-second-requires c = rw (to_z-of_z w64 _ c.ranges.rbns) (omega (arith, sums_in_size c.args.width c.args.rbns c.args.ibnr))

pub write_field-third-requires : goal.write_field-third-requires
write_field-third-requires c =
    let one = field_of _ c.ranges.rbns c.write_field-second.ensures in
    rw (to_z-of_z w64 _ c.ranges.ibnr) (omega (arith, sums_in_size c.args.width c.args.rbns c.args.ibnr, one.end))

pub write_field-end-requires : goal.write_field-end-requires
write_field-end-requires c =
    let one = field_of _ c.ranges.rbns c.write_field-second.ensures in
    let two = field_of _ c.ranges.ibnr c.write_field-third.ensures in
    rw (to_z-of_z w64 _ c.ranges.rbns, to_z-of_z w64 _ c.ranges.ibnr, to_z-of_z w64 _ (fits_so _ c.requires.ibnr_value))
    (omega (arith, sums_in_size c.args.width c.args.rbns c.args.ibnr, one.end, two.end))

pub put-requires : goal.put-requires
put-requires c =
    let one = field_of _ c.ranges.rbns c.write_field-second.ensures in
    let two = field_of _ c.ranges.ibnr c.write_field-third.ensures in
    let three = field_of _ (fits_so _ c.requires.ibnr_value) (rw (to_z-of_z w64 _ c.ranges.rbns, to_z-of_z w64 _ c.ranges.ibnr) at c.write_field-end.ensures) in
    omega (arith, sums_in_size c.args.width c.args.rbns c.args.ibnr, one.end, two.end, three.end)
