-- `text::put` meets its contract. Assumes nothing.
use Rattle.std.proofs.Common.{arith}
use Rattle.text.specs.Written.{written_byte}
use Rattle.text.proofs.put.Goals as goal

pub returns : goal.returns
returns c = written_byte c.args.out.now c.args.at c.args.b (omega arith)
