-- `ladder::sums::latest_sums` meets its contract: the rows so far are summed. Assumes nothing.
use Rattle.std.proofs.Common.{◌≡◌, ◌∙◌, arith, pos, w64, to_z-of_z, SFits, rules}
use Rattle.model.specs.ListsLaws.{listed_none, listed_next}
use Rattle.ladder.specs.Sums.{latests}
use Rattle.ladder.specs.SumsLaws.{row_sum, row_spaced, running}
use Rattle.ladder.proofs.sums.latest_sums.Goals as goal

pub spaced_sum-requires : goal.spaced_sum-requires
spaced_sum-requires c = running (search rules) (row_spaced c.args.set.now c.args.kind c.args.m c.requires.0 c.requires.1 c.loop-k.k (omega arith))

pub loop-k-preserved : goal.loop-k-preserved
loop-k-preserved c =
    let f : SFits w64 c.spaced_sum.result = search rules in
    let sum = to_z-of_z f ∙ c.spaced_sum.ensures ∙ row_sum c.args.set.now c.args.kind c.args.m c.loop-k.k c.requires.1.few (omega arith) in
    listed_next 20 c.loop-k.k _ (pos 0) (omega (arith, c.requires.1.few)) c.loop-k.invariant sum

pub returns : goal.returns
unfolding latests
returns c = let e : c.loop-k.k ≡ c.args.m = omega arith in rw e at c.loop-k.invariant

pub loop-k-init : goal.loop-k-init
loop-k-init c = c.requires.2 ∙ listed_none 20 _ (pos 0)
