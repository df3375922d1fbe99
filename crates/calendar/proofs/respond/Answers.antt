-- `calendar::respond` meets its contract: an output that every text fits is answered in place.
-- Assumes nothing.
use Rattle.std.proofs.Common.{arith}
use Rattle.calendar.specs.Respond.{answered}
use Rattle.calendar.proofs.respond.Goals as goal

pub returns : goal.returns
returns c = answered c.args.input.now c.args.out.now _ _ (omega arith) c.answer.ensures
