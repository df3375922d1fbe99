-- `quotients` meets its contract: the quotients so far are made. Assumes nothing.
use Rattle.std.proofs.Common.{arith, rules, w64, SFits, to_z-of_z}
use Rattle.std.specs.Float.Ieee.{of_bits}
use Rattle.model.specs.Lists.{at}
use Rattle.model.specs.ListsLaws.{listed_none, listed_next}
use Rattle.model.specs.ClaimCosts.{no_float}
use Rattle.claim_costs.proofs.quotients.Goals as goal

pub loop-k-init : goal.loop-k-init
unfolding of_bits
loop-k-init c = listed_none 20 _ no_float

pub quotient-requires : goal.quotient-requires
quotient-requires c =
    let x : SFits w64 (at c.args.xs.now c.loop-k.k) = search rules in
    let y : SFits w64 (at c.args.ys.now c.loop-k.k) = search rules in
    rw (to_z-of_z x, to_z-of_z y) (c.requires.places c.loop-k.k (omega arith))

pub loop-k-preserved : goal.loop-k-preserved
loop-k-preserved c =
    let x : SFits w64 (at c.args.xs.now c.loop-k.k) = search rules in
    let y : SFits w64 (at c.args.ys.now c.loop-k.k) = search rules in
    listed_next 20 c.loop-k.k _ no_float (omega arith) c.loop-k.invariant (rw (to_z-of_z x, to_z-of_z y) at c.quotient.ensures)
