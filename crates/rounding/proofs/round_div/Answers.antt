-- `rounding::round_div` meets its contract: the machine's quotient and remainder are what
-- `round_quotient` asks. Assumes nothing.
use Rattle.std.proofs.Common.{ap, ◌∙◌, arith, ℤ, w64, SFits, to_z-of_z}
use lib.Signed.{quot_z, rem_z}
use Rattle.model.specs.Rounding.{r}
use Rattle.rounding.specs.Words.{fits_abs}
use Rattle.rounding.specs.Truncated.{Truncated, truncated}
use Rattle.rounding.proofs.round_div.Goals as goal
use Rattle.rounding.proofs.round_div.Goals.{Start}

module _ (c : Start) where
  parts : Truncated c.args.a c.args.b
  parts = truncated c.args.a c.args.b c.requires.0

  quot_fits : SFits w64 (quot_z c.args.a c.args.b)
  quot_fits = fits_abs (omega (arith, parts.quot))

  rem_fits : SFits w64 (rem_z c.args.a c.args.b)
  rem_fits = fits_abs (omega (arith, parts.rem))

pub returns : goal.returns
returns c =
    let s = c.before in
    to_z-of_z {w = w64} (record { sfits = c.round_quotient.type_inv })
    ∙ c.round_quotient.ensures
    ∙ rw (to_z-of_z s.ranges.a, to_z-of_z s.ranges.b, to_z-of_z (quot_fits s), to_z-of_z (rem_fits s)) (ap (λ (z : ℤ). r z s.args.b) (parts s).whole)
