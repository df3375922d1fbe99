-- `tally::year_sum` meets its contract: the entries stand where the year's cells do.
-- Assumes nothing.
use Rattle.std.proofs.Common.{arith, SFits, rules}
use Rattle.std.specs.Int.{w64}
use Rattle.std.proofs.lemmas.Int.{to_z-of_z}
use Rattle.tally.specs.YearRows.{spaced, year_spaced, evenly}
use Rattle.tally.proofs.year_sum.Goals as goal

pub spaced_sum-requires : goal.spaced_sum-requires
spaced_sum-requires c =
    rw c.saturating_sub-row.ensures (evenly (spaced c.args.m c.args.out.now c.args.k c.args.kind (omega arith) c.requires.m_bound.0 (omega arith) c.requires.m_bound.2 c.requires.m_bound.1))

pub returns : goal.returns
returns c =
    let f : SFits w64 c.spaced_sum.result = search rules in
    rw (to_z-of_z w64 _ f, ← year_spaced c.args.m c.args.out.now c.args.k c.args.kind (omega arith))
    (rw c.saturating_sub-row.ensures at c.spaced_sum.ensures)
