-- `first_line::number_of` meets its contract. The invariant: the digits left, read after v, say the
-- number of them all, and v is small. Assumes nothing.
use Rattle.std.proofs.Common.{sym, ◌∙◌, arith, pow-suc, add-one}
use Rattle.first_line.specs.Runs.{value_rest, value_last, few_tens}
use Rattle.first_line.proofs.number_of.Goals as goal

pub overflow_add-v : goal.overflow_add-v
overflow_add-v c = omega (arith, few_tens c.loop-b.b-index (omega arith), c.type_inv.digits c.loop-b.b-index)

pub overflow_mul-v : goal.overflow_mul-v
overflow_mul-v c = omega (arith, few_tens c.loop-b.b-index (omega arith))

pub loop-b-preserved : goal.loop-b-preserved
loop-b-preserved c =
    record {
      small = rw add-one (omega (arith, pow-suc 10 c.loop-b.b-index, c.type_inv.digits c.loop-b.b-index));
      rest = c.loop-b.invariant.rest ∙ rw (c.from.ensures, c.saturating_sub.ensures) (value_rest c.loop-b.v c.args.digits.now c.loop-b.b-index (omega arith));
    }

pub returns : goal.returns
returns c = sym (c.loop-b.invariant.rest ∙ value_last c.loop-b.v c.args.digits.now c.loop-b.b-index (omega arith))
