-- `solves_at` meets its contract: twice the distance fits an unsigned word. Assumes nothing.
use Rattle.std.proofs.Common.{◌≡◌, refl, ◌∙◌, ap, suc, ◌-◌, ◌*◌, arith, leb, ℤ, pos, negsuc, nat_abs, ◌-ℤ◌, ◌*ℤ◌, w64, to_z, of_z, to_z-of_z}
use Rattle.std.specs.Int.Signed.{le_z}
use Rattle.integers.specs.Parts.{◌⩽◌}
use Rattle.integers.specs.Absolute.{∣◌∣}
use Rattle.integers.specs.Order.{<ℤ-≤ℤ}
use Rattle.integers.specs.Sums.{sum}
use Rattle.model.specs.Lists.{at}
use Rattle.model.specs.Rounding.{S}
use Rattle.model.specs.Delays.{solves_at}
use Rattle.solver.specs.SolvedLaws.{from_zero}
use Rattle.solver.proofs.solves_at.Goals as goal
use Rattle.solver.proofs.solves_at.Goals.{After-magnitude-distance, After-residual}

-- twice a magnitude held against a number that is not negative
doubled : (x b : ℤ) → pos 0 ⩽ b → leb (2 * nat_abs x) (nat_abs b) ≡ le_z (pos 2 *ℤ ∣ x ∣) b
unfolding ∣◌∣
doubled x (pos n) h = refl
doubled x (negsuc n) h = absurd h.le

-- the residual, as it is read
module _ (c : After-residual) where
  read : to_z w64 (of_z w64 c.residual.result) ≡ c.residual.result
  read = to_z-of_z {w = w64} (record { sfits = c.residual.type_inv })

  residual_is : to_z w64 (of_z w64 c.residual.result) ≡ S *ℤ at c.args.q.now c.args.l -ℤ sum (suc c.args.l) (λ k. at c.args.b.now k *ℤ at c.args.p.now (c.args.l - k))
  residual_is =
      read ∙ c.residual.ensures.0
      ∙ ap (λ (x : ℤ). S *ℤ at c.args.q.now c.args.l -ℤ x) (from_zero c.args.b.now c.args.p.now c.args.l)

distance_is : (c : After-magnitude-distance) → c.magnitude-distance.result ≡ nat_abs c.residual.result
distance_is c = c.magnitude-distance.ensures ∙ ap nat_abs (read c.before)

pub returns : goal.returns
unfolding solves_at
returns c =
    rw (c.magnitude-distance.ensures, residual_is c.before.before.before, c.magnitude.ensures, to_z-of_z {w = w64} (record { sfits = c.magnitude-arg-1.given }))
    (doubled _ (at c.args.b.now 0) (<ℤ-≤ℤ c.requires.divisor.0))

pub overflow_mul-result : goal.overflow_mul-result
overflow_mul-result c = rw (distance_is c) (omega (arith, c.residual.ensures.1))
