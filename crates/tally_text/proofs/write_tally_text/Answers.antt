-- `tally_text::write_tally_text` meets its contract: the lines, T and the totals. Assumes nothing.
use Rattle.std.proofs.Common.{arith, rules, SFits}
use Rattle.std.proofs.lemmas.Int.{to_z-of_z}
use Rattle.std.specs.Int.{w64}
use Rattle.text.specs.Written.{written_then, written_whole}
use Rattle.tally.specs.YearRows.{total_is, total_spaced, evenly}
use Rattle.tally_text.specs.TallyTextLaws.{plain_text, plain_size}
use Rattle.tally_text.proofs.write_tally_text.Goals as goal

pub write_lines-end-requires : goal.write_lines-end-requires
write_lines-end-requires c =
    record { n_bound = omega arith; by_index = c.requires.printable.both; lines_in_bounds = omega (arith, plain_size c.args.m c.args.t.now) }

pub spaced_sum-first-requires : goal.spaced_sum-first-requires
spaced_sum-first-requires c = evenly (total_spaced _ _ (omega arith) c.requires.printable.first_total)

pub spaced_sum-second-requires : goal.spaced_sum-second-requires
spaced_sum-second-requires c = evenly (total_spaced _ _ (omega arith) c.requires.printable.second_total)

pub put-next-requires : goal.put-next-requires
put-next-requires c = omega (arith, plain_size c.args.m c.args.t.now, c.write_lines-end.ensures.end)

pub write_sums-requires : goal.write_sums-requires
write_sums-requires c =
    let f : SFits w64 c.spaced_sum-first.result = search rules in
    let g : SFits w64 c.spaced_sum-second.result = search rules in
    rw (to_z-of_z w64 _ f, to_z-of_z w64 _ g, c.spaced_sum-first.ensures, c.spaced_sum-second.ensures, total_is _ c.args.t.now.rbns, total_is _ c.args.t.now.ibnr)
    record { ibnr_value = c.requires.printable.total; sums_in_bounds = omega (arith, plain_size c.args.m c.args.t.now, c.write_lines-end.ensures.end, c.put-next.ensures.end) }

pub returns : goal.returns
returns c =
    let f : SFits w64 c.spaced_sum-first.result = search rules in
    let g : SFits w64 c.spaced_sum-second.result = search rules in
    rw (plain_text c.args.m c.args.t.now)
    (written_whole
    (written_then c.write_lines-end.ensures
    (written_then c.put-next.ensures
    (rw (to_z-of_z w64 _ f, to_z-of_z w64 _ g, c.spaced_sum-first.ensures, c.spaced_sum-second.ensures, total_is _ c.args.t.now.rbns, total_is _ c.args.t.now.ibnr)
    at c.write_sums.ensures))))
