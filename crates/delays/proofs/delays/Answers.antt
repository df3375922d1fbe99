-- `delays` meets its contract: what `delays_into` writes into a list of zeros. Assumes nothing.
use Rattle.delays.specs.PreparedLaws.{delays_whole}
use Rattle.delays.proofs.delays.Goals as goal

pub returns : goal.returns
returns c =
    let e = c.delays_into-answer.ensures in
    rw c.refusal_number-refusal.ensures (delays_whole c.args.m c.args.file.now e.value (rw c.refusal_number-refusal.ensures at c.store_line.ensures) e.p_after)
