-- `weighed_sum` meets its contract: the products so far are summed. Assumes nothing.
use Rattle.std.proofs.Common.{◌≡◌, sym, ◌∙◌, ap, ℕ, suc, ◌+◌, ◌-◌, arith, ℤ, ◌+ℤ◌, ◌*ℤ◌, w64, SFits, to_z, of_z, to_z-of_z}
use Rattle.integers.specs.Sums.{sum, sum_zero}
use Rattle.model.specs.Lists.{at}
use Rattle.rounding.specs.Words.{fits_abs}
use Rattle.rounding.specs.Running.{sum_add}
use Rattle.solver.specs.Solved.{weighed_sum}
use Rattle.solver.specs.SolvedLaws.{product_small, part_small}
use Rattle.solver.proofs.weighed_sum.Invariants.{term}
use Rattle.solver.proofs.weighed_sum.Goals as goal
use Rattle.solver.proofs.weighed_sum.Goals.{After-out-in-loop-k-1}

-- the product that is added, and the sum, as they are read
module _ (c : After-out-in-loop-k-1) where
  abbrev first : ℕ
  first = c.args.first

  abbrev l : ℕ
  l = c.args.l

  abbrev k : ℕ
  k = c.loop-k.k

  abbrev x : ℤ
  x = at c.args.b.now k

  abbrev y : ℤ
  y = at c.args.p.now (l - k)

  factors : to_z w64 (of_z w64 x) *ℤ to_z w64 (of_z w64 y) ≡ x *ℤ y
  factors = rw (to_z-of_z {w = w64} (record { sfits = c.out-1.given }), to_z-of_z {w = w64} (record { sfits = c.out-in-loop-k-1.given }))

  product_fits : SFits w64 (x *ℤ y)
  product_fits = fits_abs (omega (arith, product_small c.requires k c.loop-k.auto.k c.loop-k-test.true))

  added : to_z w64 c.loop-k.out-bits +ℤ to_z w64 (of_z w64 (to_z w64 (of_z w64 x) *ℤ to_z w64 (of_z w64 y))) ≡ sum (k + 1 - first) (term c.args.b.now c.args.p.now first l)
  added =
      let d : k + 1 - first ≡ k - first + 1 = omega arith in
      let e : first + (k - first) ≡ k = omega arith in
      rw d (sum_add (k - first) _ c.loop-k.invariant.summed (ap (λ (z : ℤ). to_z w64 (of_z w64 z)) factors ∙ to_z-of_z product_fits ∙ rw e))

  sum_fits : SFits w64 (sum (k + 1 - first) (term c.args.b.now c.args.p.now first l))
  sum_fits = fits_abs (omega (arith, part_small c.requires (k + 1 - first) (omega arith)))

  stored : to_z w64 (of_z w64 (to_z w64 c.loop-k.out-bits +ℤ to_z w64 (of_z w64 (to_z w64 (of_z w64 x) *ℤ to_z w64 (of_z w64 y))))) ≡ sum (k + 1 - first) (term c.args.b.now c.args.p.now first l)
  stored = to_z-of_z {w = w64} (rw added sum_fits) ∙ added

pub loop-k-init : goal.loop-k-init
loop-k-init c =
    let e : c.args.first - c.args.first ≡ 0 = omega arith in
    record { most = c.requires.some; summed = rw e (sym (sum_zero _)) }

pub overflow_mul-out : goal.overflow_mul-out
overflow_mul-out c = rw (factors c) (product_fits c)

pub overflow_add-out : goal.overflow_add-out
overflow_add-out c = rw (added c) (sum_fits c)

pub loop-k-preserved : goal.loop-k-preserved
loop-k-preserved c = record { most = omega arith; summed = stored c.before }

pub returns : goal.returns
unfolding weighed_sum
returns c = let e : c.loop-k.k ≡ suc c.args.l = omega arith in rw e at c.loop-k.invariant.summed

pub returns-2 : goal.returns-2
unfolding weighed_sum
returns-2 c = let e : c.loop-k.k + 1 ≡ suc c.args.l = omega arith in rw e at (stored c.before)
