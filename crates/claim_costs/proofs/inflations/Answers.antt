-- `inflations` meets its contract: the years so far are made. Assumes nothing.
use Rattle.std.proofs.Common.{ap, add-one, arith, rules, w64, SFits, to_z-of_z}
use Rattle.model.specs.Lists.{at}
use Rattle.model.specs.ListsLaws.{listed_none, listed_next}
use Rattle.model.specs.ClaimCosts.{year_inflation}
use Rattle.model.specs.declared.Inflation.TheVariants.{NoPaymentsYet}
use Rattle.claim_costs.proofs.inflations.Goals as goal

pub loop-k-init : goal.loop-k-init
loop-k-init c = listed_none 20 _ (year_inflation NoPaymentsYet)

pub loop-k-preserved : goal.loop-k-preserved
loop-k-preserved c =
    let u : SFits w64 (at c.args.ultimates.now c.loop-k.k) = search rules in
    listed_next 20 c.loop-k.k _ (year_inflation NoPaymentsYet) (omega arith) c.loop-k.invariant (ap year_inflation (rw (to_z-of_z u, add-one) at c.inflation.ensures))
