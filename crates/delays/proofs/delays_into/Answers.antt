-- `delays_into` meets its contract: `file_delays` with those solved here. Assumes nothing.
use Rattle.delays.specs.PreparedLaws.{as_solved}
use Rattle.delays.proofs.delays_into.Goals as goal

pub returns : goal.returns
returns c = let e = as_solved c.args.m c.args.file.now c.file_delays.ensures in record { value = e.0; p_after = e.1 }
