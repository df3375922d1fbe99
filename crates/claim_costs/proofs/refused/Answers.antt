-- `refused` meets its contract. Assumes nothing.
use Rattle.std.proofs.Common.{refl}
use Rattle.std.specs.Float.Ieee.{of_bits}
use Rattle.model.specs.ClaimCosts.{no_claim_costs}
use Rattle.claim_costs.proofs.refused.Goals as goal

pub returns : goal.returns
unfolding no_claim_costs of_bits
returns c = refl
