-- `due::full_years` meets its contract: each list's sum, and their sum fits. Assumes nothing.
use Rattle.std.proofs.Common.{◌≡◌, ◌∙◌, ap₂, ℤ, ◌+ℤ◌, arith, to_z, of_z, SFits}
use Rattle.std.specs.Int.{w64}
use Rattle.std.proofs.lemmas.Int.{to_z-of_z}
use borrow.Author.Rules.{sfits_of}
use Rattle.model.specs.Cash.{full_years}
use Rattle.rounding.specs.Words.{fits_abs}
use Rattle.tally.specs.YearRows.{total_is, total_spaced, evenly}
use Rattle.due.specs.DueLaws.{years_fit, full_small}
use Rattle.due.proofs.full_years.Goals as goal
use Rattle.due.proofs.full_years.Goals.{After-spaced_sum-2}

module _ (c : After-spaced_sum-2) where
  abbrev full : ℤ
  full = full_years c.args.tally.now c.args.k

  both : to_z w64 (of_z w64 c.spaced_sum.result) +ℤ to_z w64 (of_z w64 c.spaced_sum-2.result) ≡ full
  unfolding full_years
  both =
      ap₂ ◌+ℤ◌ (to_z-of_z w64 _ (sfits_of c.spaced_sum.type_inv) ∙ c.spaced_sum.ensures ∙ total_is c.args.k c.args.tally.now.rbns)
      (to_z-of_z w64 _ (sfits_of c.spaced_sum-2.type_inv) ∙ c.spaced_sum-2.ensures ∙ total_is c.args.k c.args.tally.now.ibnr)

  fits : SFits w64 full
  fits = let p = c.requires in fits_abs (omega (arith, full_small c.args.tally.now p.0 p.1 c.args.k p.2))

pub spaced_sum-requires : goal.spaced_sum-requires
spaced_sum-requires c = let p = c.requires in evenly (total_spaced _ _ (omega (arith, p.2)) (λ k l. years_fit c.args.tally.now.rbns p.0 k (omega (arith, p.2))))

pub spaced_sum-requires-2 : goal.spaced_sum-requires-2
spaced_sum-requires-2 c = let p = c.requires in evenly (total_spaced _ _ (omega (arith, p.2)) (λ k l. years_fit c.args.tally.now.ibnr p.1 k (omega (arith, p.2))))

pub overflow_add-result : goal.overflow_add-result
overflow_add-result c = rw (both c) (fits c)

pub returns : goal.returns
returns c = rw (both c) (to_z-of_z w64 _ (fits c))
