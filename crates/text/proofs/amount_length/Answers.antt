-- `text::amount_length` meets its contract: the digits of the magnitude, and one byte more for a
-- minus sign. Assumes nothing.
use Rattle.std.proofs.Common.{◌∙◌, ap, sym, length, arith}
use Rattle.text.specs.Digits.{digits_length}
use Rattle.text.proofs.Signs.{amount_below, amount_not_below}
use Rattle.text.proofs.amount_length.Goals as goal

pub overflow_add-result : goal.overflow_add-result
overflow_add-result c = omega (arith, digits_length 19 c.unsigned_abs-n.result (omega (arith, c.unsigned_abs-n.type_inv)))

pub returns-then-value-lt0 : goal.returns-then-value-lt0
returns-then-value-lt0 c =
    omega (arith, ap length (amount_below c.args.value c.unsigned_abs-n.result c.ranges.value c.if-value-lt0.true c.unsigned_abs-n.ensures.value))

pub returns : goal.returns
returns c =
    c.digits_length-count.ensures
    ∙ sym (ap length (amount_not_below c.args.value c.unsigned_abs-n.result c.ranges.value c.if-value-lt0.false c.unsigned_abs-n.ensures.value))
