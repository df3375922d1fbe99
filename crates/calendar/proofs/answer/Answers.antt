-- `calendar::answer` meets its contract: the first line is refused, or asks for the answer to the
-- file behind it. Assumes nothing.
use Rattle.std.proofs.Common.{sym, arith}
use Rattle.std.proofs.Math.Nat.{le_trans}
use Rattle.tally_text.specs.TallyTextLaws.{refusal_short}
use Rattle.calendar.specs.Respond.{file_part, file_inside, asked_text, wrong_text}
use Rattle.calendar.proofs.answer.Goals as goal

pub write_refusal-requires : goal.write_refusal-requires
write_refusal-requires c = le_trans (refusal_short _ (omega arith)) c.requires

pub returns-in_default : goal.returns-in_default
returns-in_default c = rw (wrong_text c.args.input.now (sym c.in_default.ensures)) (rw c.from.ensures at c.write_refusal.ensures)

pub slice_bounds-file-start : goal.slice_bounds-file-start
slice_bounds-file-start c = file_inside c.args.input.now _ (sym c.in-Some.ensures)

pub slice_bounds-file-count : goal.slice_bounds-file-count
slice_bounds-file-count c = file_inside c.args.input.now _ (sym c.in-Some.ensures)

pub returns : goal.returns
returns c =
    rw (asked_text c.args.input.now _ (sym c.in-Some.ensures))
    (rw (file_part c.in-Some.asked.start c.args.input.now) at c.answer_file.ensures)
