-- `quotient` meets its contract: both numbers are held exactly. Assumes nothing.
use Rattle.std.proofs.Common.{rules, to_z-of_z}
use Rattle.model.specs.ClaimCosts as ClaimCosts
use Rattle.claim_costs.specs.QuotientLaws.{held}
use Rattle.claim_costs.proofs.quotient.Goals as goal

pub returns : goal.returns
unfolding ClaimCosts.quotient
returns c = search rules

pub int_to_float-result : goal.int_to_float-result
int_to_float-result c = rw (to_z-of_z c.ranges.x) (held _ c.requires.over)

pub int_to_float-result-2 : goal.int_to_float-result-2
int_to_float-result-2 c = rw (to_z-of_z c.ranges.y) (held _ c.requires.under)
