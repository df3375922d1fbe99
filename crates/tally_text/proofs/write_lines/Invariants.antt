use Rattle.model.specs.Calendar.{lines}
use Rattle.text.specs.Written.{Written}
use Rattle.tally_text.specs.TallyTextLaws.{laid}
use Rattle.tally_text.proofs.write_lines.Given as goal

abbrev pub invariant-loop-k : goal.invariant-loop-k
invariant-loop-k l = Written l.initial.out l.start (lines (laid l.layout) l.t l.k) l.out l.end
