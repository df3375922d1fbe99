-- `shares` meets its contract: what `shares_into` writes into lists of zeros. Assumes nothing.
use Rattle.chain_ladder.specs.SharesCall.{shares_whole}
use Rattle.chain_ladder.proofs.shares.Goals as goal

pub returns : goal.returns
returns c =
    let e = c.shares_into-answer.ensures in
    rw c.refusal_number-refusal.ensures (shares_whole c.args.m c.args.file.now e.value (rw c.refusal_number-refusal.ensures at c.store_line.ensures) e.b_after e.n_after e.q_after e.g_after e.u_after)
