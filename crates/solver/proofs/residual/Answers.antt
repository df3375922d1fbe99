-- `residual` meets its contract: it fits a word. Assumes nothing.
use Rattle.std.proofs.Common.{◌≡◌, refl, ◌∙◌, ap, ap₂, ◌*◌, ◌^◌, ◌≤◌, arith, ℤ, pos, nat_abs, ◌-ℤ◌, ◌*ℤ◌, w64, SFits, to_z, of_z, to_z-of_z}
use Rattle.integers.specs.Order.{nat_abs-*ℤ, nat_abs--ℤ}
use Rattle.model.specs.Lists.{at}
use Rattle.model.specs.Rounding.{S}
use Rattle.rounding.specs.Words.{fits_abs}
use Rattle.solver.specs.Solved.{weighed_sum}
use Rattle.solver.specs.SolvedLaws.{sum_small}
use Rattle.solver.proofs.residual.Goals as goal
use Rattle.solver.proofs.residual.Goals.{After-result-1, After-weighed_sum}

-- the numbers as they are read
module _ (c : After-result-1) where
  abbrev scaled : ℤ
  scaled = pos 1000000000 *ℤ at c.args.q.now c.args.l

  scaled_is : pos 1000000000 *ℤ to_z w64 (of_z w64 (at c.args.q.now c.args.l)) ≡ scaled
  scaled_is = rw (to_z-of_z {w = w64} (record { sfits = c.result-1.given }))

  scaled_small : nat_abs scaled ≤ 10 ^ 18
  scaled_small = omega (arith, nat_abs-*ℤ (pos 1000000000) (at c.args.q.now c.args.l), c.requires.target)

  scaled_fits : SFits w64 scaled
  scaled_fits = fits_abs (omega (arith, scaled_small))

module _ (c : After-weighed_sum) where
  abbrev one : After-result-1
  one = c.before

  abbrev sum : ℤ
  sum = let a = c.args in weighed_sum a.b.now a.p.now a.first a.l

  read : to_z w64 (of_z w64 (pos 1000000000 *ℤ to_z w64 (of_z w64 (at c.args.q.now c.args.l)))) -ℤ to_z w64 (of_z w64 c.weighed_sum.result) ≡ scaled one -ℤ sum
  read =
      ap₂ (λ (x y : ℤ). x -ℤ y) (ap (λ (z : ℤ). to_z w64 (of_z w64 z)) (scaled_is one) ∙ to_z-of_z (scaled_fits one))
      (to_z-of_z {w = w64} (record { sfits = c.weighed_sum.type_inv }) ∙ c.weighed_sum.ensures)

  small : nat_abs (scaled one -ℤ sum) ≤ 9 * 10 ^ 18
  small = omega (arith, nat_abs--ℤ (scaled one) sum, scaled_small one, sum_small c.requires.weights)

  fits : SFits w64 (scaled one -ℤ sum)
  fits = fits_abs (omega (arith, small))

pub returns : goal.returns
unfolding S
returns c = rw (read c, to_z-of_z (fits c)) (refl, small c)

pub overflow_mul-result : goal.overflow_mul-result
overflow_mul-result c = rw (scaled_is c) (scaled_fits c)

pub overflow_sub-result : goal.overflow_sub-result
overflow_sub-result c = rw (read c) (fits c)
