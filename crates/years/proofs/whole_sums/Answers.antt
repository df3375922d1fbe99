-- `whole_sums` meets its contract. The loop's invariant: the reporting delays from k on are summed.
-- Assumes nothing.
use Rattle.std.proofs.Common.{◌∙◌}
use Rattle.cells.specs.SumsFromLaws.{no_sums}
use Rattle.years.proofs.whole_sums.Goals as goal

pub loop-k-init : goal.loop-k-init
loop-k-init c = c.requires.m_bound.1 ∙ no_sums c.args.m c.args.b.now c.args.p.now
