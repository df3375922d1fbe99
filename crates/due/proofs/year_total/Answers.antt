-- `due::year_total` meets its contract: the sum of two small numbers fits. Assumes nothing.
use Rattle.std.proofs.Common.{◌≡◌, ◌∙◌, ap₂, ℤ, ◌+ℤ◌, arith, to_z, of_z, SFits}
use Rattle.std.specs.Int.{w64}
use Rattle.std.proofs.lemmas.Int.{to_z-of_z}
use borrow.Author.Rules.{sfits_of}
use Rattle.model.specs.Cash.{year_total}
use Rattle.rounding.specs.Words.{fits_abs}
use Rattle.due.specs.DueLaws.{year_small}
use Rattle.due.proofs.year_total.Goals as goal
use Rattle.due.proofs.year_total.Goals.{After-number_at-2}

module _ (c : After-number_at-2) where
  abbrev total : ℤ
  total = year_total c.args.tally.now c.args.k

  both : to_z w64 (of_z w64 c.number_at.result) +ℤ to_z w64 (of_z w64 c.number_at-2.result) ≡ total
  unfolding year_total
  both =
      ap₂ ◌+ℤ◌ (to_z-of_z w64 _ (sfits_of c.number_at.type_inv) ∙ c.number_at.ensures)
      (to_z-of_z w64 _ (sfits_of c.number_at-2.type_inv) ∙ c.number_at-2.ensures)

  fits : SFits w64 total
  fits = fits_abs (omega (arith, year_small c.args.tally.now c.requires.0 c.requires.1 c.args.k))

pub overflow_add-result : goal.overflow_add-result
overflow_add-result c = rw (both c) (fits c)

pub returns : goal.returns
returns c = rw (both c) (to_z-of_z w64 _ (fits c))
