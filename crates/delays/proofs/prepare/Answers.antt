-- `delays::prepare` meets its contract: `prepare_from` with the delays solved here. Assumes
-- nothing.
use Rattle.delays.specs.Prepared.{asks_delays, delays_from, refusal_from, prepared_refusal}
use Rattle.delays.proofs.prepare.Goals as goal

pub returns : goal.returns
unfolding asks_delays delays_from refusal_from prepared_refusal
returns c = c.prepare_from.ensures
