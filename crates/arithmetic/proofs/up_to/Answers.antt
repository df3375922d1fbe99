-- `arithmetic::up_to` meets its contract. Assumes nothing.
use Rattle.std.proofs.Common.{◌≡◌, sym, ap, ◌∙◌, Some, arith, nat_abs, to_z-of_z}
use Rattle.rounding.specs.Words.{abs_read}
use Rattle.arithmetic.specs.Capped.{capped_within, capped_over}
use Rattle.arithmetic.proofs.up_to.Goals as goal
use Rattle.arithmetic.proofs.up_to.Goals.{After-magnitude}

k_is : (c : After-magnitude) → c.magnitude.result ≡ nat_abs c.args.k
k_is c = c.magnitude.ensures ∙ abs_read c.ranges.k

pub returns : goal.returns
returns c = ap Some (to_z-of_z c.ranges.k) ∙ sym (capped_within _ _ (omega (arith, k_is c.before)))

pub returns-then-magnitude-cap : goal.returns-then-magnitude-cap
returns-then-magnitude-cap c = sym (capped_over _ _ (omega (arith, k_is c.before)))
