-- `row_bases::bases::leftovers` meets its contract. The loop's invariant: the leftovers of the
-- first k years are in their places. Assumes nothing.
use Rattle.std.proofs.Common.{◌∙◌, arith, rules, pos, w64, SFits, to_z-of_z}
use Rattle.model.specs.Lists.{at}
use Rattle.model.specs.ListsLaws.{listed_none, listed_next}
use Rattle.row_bases.specs.Bases.{number, left_at}
use Rattle.row_bases.proofs.bases.leftovers.Goals as goal

pub loop-k-init : goal.loop-k-init
loop-k-init c = listed_none 20 _ (pos 0)

pub loop-k-preserved : goal.loop-k-preserved
loop-k-preserved c =
    let u : SFits w64 (at c.args.u.now c.loop-k.k) = search rules in
    let w : SFits w64 (at c.args.w.now c.loop-k.k) = search rules in
    let l : SFits w64 (at c.args.c.now c.loop-k.k) = search rules in
    let f : SFits w64 c.leftover.result = search rules in
    listed_next 20 c.loop-k.k (left_at c.args.m (number c.args.method) c.args.u.now c.args.c.now c.args.w.now) (pos 0) (omega arith) c.loop-k.invariant (to_z-of_z f ∙ rw (to_z-of_z u, to_z-of_z w, to_z-of_z l) at c.leftover.ensures)
