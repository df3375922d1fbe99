-- `text::write_amount` meets its contract: a sign and the digits of the magnitude, or the
-- digits alone. Assumes nothing.
use Rattle.std.proofs.Common.{ap, arith, length}
use Rattle.text.specs.Written.{written_then}
use Rattle.text.proofs.Signs.{amount_below, amount_not_below}
use Rattle.text.proofs.write_amount.Goals as goal

pub put-next-requires : goal.put-next-requires
put-next-requires c =
    let e = amount_below c.args.value c.unsigned_abs-n.result c.ranges.value c.if-value-lt0.true c.unsigned_abs-n.ensures.value in
    omega (arith, ap length e)

pub write_digits-requires : goal.write_digits-requires
write_digits-requires c =
    let e = amount_below c.args.value c.unsigned_abs-n.result c.ranges.value c.if-value-lt0.true c.unsigned_abs-n.ensures.value in
    omega (arith, ap length e, c.put-next.ensures.end)

pub returns-then-value-lt0 : goal.returns-then-value-lt0
returns-then-value-lt0 c =
    rw (amount_below c.args.value c.unsigned_abs-n.result c.ranges.value c.if-value-lt0.true c.unsigned_abs-n.ensures.value)
    (written_then c.put-next.ensures c.write_digits.ensures)

pub write_digits-requires-2 : goal.write_digits-requires-2
write_digits-requires-2 c =
    let e = amount_not_below c.args.value c.unsigned_abs-n.result c.ranges.value c.if-value-lt0.false c.unsigned_abs-n.ensures.value in
    omega (arith, ap length e)

pub returns : goal.returns
returns c =
    rw (amount_not_below c.args.value c.unsigned_abs-n.result c.ranges.value c.if-value-lt0.false c.unsigned_abs-n.ensures.value)
    c.write_digits-2.ensures
