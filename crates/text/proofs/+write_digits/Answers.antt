-- `text::write_digits` meets its contract: one digit, or those of n / 10 and then the last. The
-- measure is n. Assumes nothing.
use Rattle.std.proofs.Common.{arith}
use Rattle.text.specs.Digits.{digits_small, digits_large, length_small, length_large}
use Rattle.text.specs.Written.{written_then}
use Rattle.text.proofs.+write_digits.Goals as goal

pub put-requires : goal.put-requires
put-requires t c = omega (arith, length_small c.args.n c.if-n-lt10.true)

pub returns-then-n-lt10 : goal.returns-then-n-lt10
returns-then-n-lt10 t c = rw (digits_small c.args.n c.if-n-lt10.true) c.put.ensures

pub write_digits-end-requires : goal.write_digits-end-requires
write_digits-end-requires t c = (omega arith, omega (arith, length_large c.args.n c.if-n-lt10.false))

pub put-requires-2 : goal.put-requires-2
put-requires-2 t c =
    omega (arith, length_large c.args.n c.if-n-lt10.false, c.write_digits-end.ensures.end)

pub returns : goal.returns
returns t c =
    rw (digits_large c.args.n c.if-n-lt10.false)
    (written_then c.write_digits-end.ensures c.put-2.ensures)
