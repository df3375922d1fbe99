-- `text::write_aligned` meets its contract: spaces, and then the amount. Assumes nothing.
use Rattle.std.proofs.Common.{arith}
use Rattle.std.proofs.lemmas.Int.{to_z-of_z}
use Rattle.std.proofs.lemmas.List.{length-replicate}
use Rattle.std.specs.Int.{w64}
use Rattle.model.specs.Calendar.{amount}
use Rattle.model.specs.Page.{aligned}
use Rattle.text.specs.Written.{written_then}
use Rattle.text.specs.Amount.{aligned_size}
use Rattle.text.proofs.write_aligned.Goals as goal

pub write_spaces-start-requires : goal.write_spaces-start-requires
write_spaces-start-requires c =
    let e = rw (to_z-of_z w64 _ c.ranges.value) at c.amount_length-n.ensures in
    omega (arith, e, aligned_size c.args.width (amount c.args.value))

pub write_amount-requires : goal.write_amount-requires
write_amount-requires c =
    let e = rw (to_z-of_z w64 _ c.ranges.value) at c.amount_length-n.ensures in
    rw (to_z-of_z w64 _ c.ranges.value)
    (omega (arith, e, aligned_size c.args.width (amount c.args.value), simp length-replicate at c.write_spaces-start.ensures.end))

pub returns : goal.returns
unfolding aligned
returns c =
    let e = rw (to_z-of_z w64 _ c.ranges.value) at c.amount_length-n.ensures in
    written_then (rw (c.saturating_sub.ensures, e) at c.write_spaces-start.ensures) (rw (to_z-of_z w64 _ c.ranges.value) at c.write_amount.ensures)
