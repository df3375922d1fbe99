-- `arithmetic::mul_div_capped` meets its contract: a product that `round_wide` cannot take puts the
-- rounded quotient past every cap. Assumes nothing.
use Rattle.std.proofs.Common.{◌≡◌, sym, ap₂, ◌∙◌, ◌+◌, ◌*◌, ◌^◌, arith, nat_abs, ◌*ℤ◌}
use Rattle.integers.specs.Order.{nat_abs-*ℤ}
use Rattle.model.specs.Rounding.{r}
use Rattle.rounding.specs.RoundingLaws.{r_abs_least}
use Rattle.arithmetic.specs.Capped.{capped_over}
use Rattle.rounding.specs.Words.{abs_read}
use Rattle.arithmetic.proofs.mul_div_capped.Goals as goal
use Rattle.arithmetic.proofs.mul_div_capped.Goals.{After-magnitude, After-wide_product-p}

product_is : (c : After-wide_product-p) → let p = c.wide_product-p.result in (p.top * 65536 + p.mid) * 65536 + p.low ≡ nat_abs (c.args.a *ℤ c.args.x)
product_is c =
    c.wide_product-p.ensures.0 ∙ ap₂ ◌*◌ (abs_read c.ranges.a) (abs_read c.ranges.x) ∙ sym (nat_abs-*ℤ c.args.a c.args.x)

d_is : (c : After-magnitude) → c.magnitude.result ≡ nat_abs c.args.d
d_is c = c.magnitude.ensures ∙ abs_read c.ranges.d

pub returns-then-p-magnitude : goal.returns-then-p-magnitude
returns-then-p-magnitude c =
    let w = c.before.before.before in
    let l = r_abs_least (w.args.a *ℤ w.args.x) w.args.d (2 ^ 48) w.requires.2 (omega (arith, d_is c.before, product_is w)) in
    sym (capped_over w.args.cap (r (w.args.a *ℤ w.args.x) w.args.d) (omega (arith, l)))
