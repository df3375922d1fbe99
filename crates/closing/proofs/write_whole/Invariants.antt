-- What was written lies within the text.
use Rattle.std.proofs.Common.{length, ◌≤◌}
use Rattle.closing.proofs.write_whole.Given as goal

abbrev pub invariant-loop : goal.invariant-loop
invariant-loop g l = l.sent ≤ length l.text
