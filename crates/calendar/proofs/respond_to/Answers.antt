-- `calendar::respond_to` meets its contract: the bytes read are the input, or fill a buffer that is
-- long enough for an input to be cut there. Assumes nothing.
use Rattle.std.proofs.Common.{arith}
use Rattle.calendar.specs.Respond.{read_short, read_full}
use Rattle.calendar.proofs.respond_to.Goals as goal

pub returns-then-n-read : goal.returns-then-n-read
returns-then-n-read c =
    read_short c.args.input.now c.args.out.now c.answer.new.text c.args.n c.answer.result (omega arith) c.answer.ensures

pub returns : goal.returns
returns c =
    read_full c.args.input.now c.args.out.now c.answer-2.new.text c.args.n c.answer-2.result (omega arith) (omega arith) c.answer-2.ensures
