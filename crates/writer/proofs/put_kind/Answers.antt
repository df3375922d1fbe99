-- `put_kind` meets its contract: the years so far are written. Assumes nothing.
use Rattle.std.proofs.Common.{◌≡◌, add-one, arith}
use Rattle.writer.specs.Written.{kind_bytes}
use Rattle.writer.proofs.Chained.{filled_none, filled_room, filled_next}
use Rattle.writer.proofs.put_kind.Goals as goal

pub put_year-next-requires-clause-n_in_bounds : goal.put_year-next-requires-clause-n_in_bounds
unfolding kind_bytes
put_year-next-requires-clause-n_in_bounds c = rw add-one (filled_room _ _ _ c.loop-k.invariant c.args.m c.requires.cells_in_bounds c.loop-k-test.true)

pub loop-k-preserved : goal.loop-k-preserved
unfolding kind_bytes
loop-k-preserved c =
    let w = c.put_year-next in
    filled_next _ _ _ c.loop-k.invariant c.args.m c.requires.cells_in_bounds (rw add-one at w.ensures.value, rw add-one at w.ensures.out_after) w.auto.out

pub returns : goal.returns
unfolding kind_bytes
returns c =
    let e : c.loop-k.k ≡ c.args.m = omega arith in
    let w = rw e at c.loop-k.invariant in
    record { value = w.end; out_after = w.bytes }

pub loop-k-init : goal.loop-k-init
loop-k-init c = filled_none _ _ _
