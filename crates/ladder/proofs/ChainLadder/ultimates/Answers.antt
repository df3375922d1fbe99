-- `ChainLadder::ultimates` meets its contract: the ultimates so far are made. Assumes nothing.
use Rattle.std.proofs.Common.{◌≡◌, ◌∙◌, suc, ◌-◌, arith, rules, pos, w64, SFits, to_z-of_z}
use Rattle.model.specs.Lists.{at}
use Rattle.model.specs.ListsLaws.{listed_none, listed_next}
use Rattle.model.specs.Rounding.{S}
use Rattle.ladder.specs.Ladder.{grown}
use Rattle.ladder.proofs.ChainLadder.ultimates.Goals as goal

pub loop-k-init : goal.loop-k-init
loop-k-init c = listed_none 20 _ (pos 0)

pub loop-k-preserved : goal.loop-k-preserved
unfolding grown S
loop-k-preserved c =
    let x : SFits w64 (at c.args.self.now.latest c.loop-k.k) = search rules in
    let y : SFits w64 (at c.args.self.now.g (c.args.m - 1 - c.loop-k.k)) = search rules in
    let f : SFits w64 c.mul_div.result = search rules in
    let e : c.args.m - 1 - c.loop-k.k ≡ c.args.m - suc c.loop-k.k = omega arith in
    listed_next 20 c.loop-k.k _ (pos 0) (omega (arith, c.requires.bounds.few)) c.loop-k.invariant (to_z-of_z f ∙ rw (to_z-of_z x, to_z-of_z y, e) at c.mul_div.ensures)
