-- `delay` meets its contract. Assumes nothing.
use Rattle.std.proofs.Common.{◌≡◌, ◌∙◌, ap, ap₂, arith, ℤ, ◌-ℤ◌, ◌*ℤ◌, w64, to_z, of_z, to_z-of_z}
use Rattle.model.specs.Lists.{at}
use Rattle.model.specs.Rounding as Rounding
use Rattle.model.specs.Rounding.{S}
use Rattle.model.specs.Delays.{delay_after}
use Rattle.solver.specs.SolvedLaws.{from_one}
use Rattle.solver.proofs.delay.Goals as goal
use Rattle.solver.proofs.delay.Goals.{After-round_div-arg-1}

-- the numbers as they are read
module _ (c : After-round_div-arg-1) where
  numerator : to_z w64 (of_z w64 c.residual.result) ≡ c.residual.result
  numerator = to_z-of_z {w = w64} (record { sfits = c.residual.type_inv })

  divisor : to_z w64 (of_z w64 (at c.args.b.now 0)) ≡ at c.args.b.now 0
  divisor = to_z-of_z {w = w64} (record { sfits = c.round_div-arg-1.given })

pub round_div-requires : goal.round_div-requires
round_div-requires c = rw (divisor c, numerator c) (c.requires.divisor.0, omega arith, c.residual.ensures.1)

pub returns : goal.returns
unfolding delay_after
returns c =
    let r = c.before in
    let a = c.args in
    let e = numerator r ∙ c.residual.ensures.0 ∙ ap (λ (x : ℤ). S *ℤ at a.q.now a.l -ℤ x) (from_one a.b.now a.p.now a.l) in
    to_z-of_z {w = w64} (record { sfits = c.round_div.type_inv }) ∙ c.round_div.ensures ∙ ap₂ Rounding.r e (divisor r)
