-- `text::digits_length` meets its contract: 10^k <= n < 10^(k + 1), or n is 0. Assumes nothing.
use Rattle.std.proofs.Common.{sym, arith}
use Rattle.text.specs.Digits.{digits_count, length_small}
use Rattle.text.proofs.digits_length.Goals as goal

pub returns-in-Some : goal.returns-in-Some
returns-in-Some c = sym (digits_count c.in-Some.k c.args.n c.in-Some.ensures.power_le c.in-Some.ensures.next_power_gt)

pub returns-in-None : goal.returns-in-None
returns-in-None c = sym (length_small c.args.n (omega (arith, c.in-None.ensures.none)))
