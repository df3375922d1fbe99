-- `check_delays` meets its contract: `file_delays` with those that are given. Assumes nothing.
use Rattle.delays.specs.PreparedLaws.{as_checked}
use Rattle.delays.proofs.check_delays.Goals as goal

pub returns : goal.returns
returns c = rw c.refusal_number-refusal.ensures (as_checked c.args.m c.args.file.now c.file_delays-answer.ensures (rw c.refusal_number-refusal.ensures at c.store_line.ensures))
