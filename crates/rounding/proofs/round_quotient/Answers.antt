-- `rounding::round_quotient` meets its contract: the step from the quotient, for a remainder of
-- either sign. Assumes nothing.
use Rattle.std.proofs.Common.{◌≡◌, ◌∙◌, [], ◌∷◌, ◌<◌, arith, ℤ, pos, negsuc, neg_ℤ, nat_abs, ◌+ℤ◌, ◌-ℤ◌, w64, SFits, to_z, of_z, to_z-of_z}
use Rattle.integers.specs.Parts.{◌⋖◌}
use Rattle.integers.specs.Linear.{lin, stmt}
use Rattle.integers.specs.Order.{lt_yes, lt_no, nat_abs-+ℤ, nat_abs--ℤ}
use Rattle.rounding.specs.Words.{fits_abs}
use Rattle.rounding.specs.Steps.{step_of, step_most, r_step, r_step_down}
use Rattle.rounding.proofs.round_quotient.Goals as goal
use Rattle.rounding.proofs.round_quotient.Goals.{After-step, After-step-else-rem-lt0, Start}

-- |rem| < d, as two orders
below : (c d : ℤ) → pos 0 ⋖ d → nat_abs c < nat_abs d → (neg_ℤ d ⋖ c) × (c ⋖ d)
below c (negsuc d) h l = absurd h.lt
below c (pos d) h l = (lin (c ∷ pos d ∷ []) l (search stmt depth 20) (omega arith), lin (c ∷ pos d ∷ []) l (search stmt depth 20) (omega arith))

module _ (c : Start) where
  -- what is left and missing, below zero and from zero up
  neg_fits : SFits w64 (pos 0 -ℤ c.args.rem)
  neg_fits = fits_abs (omega (arith, nat_abs--ℤ (pos 0) c.args.rem))

  sum_fits : SFits w64 (c.args.d +ℤ c.args.rem)
  sum_fits = fits_abs (omega (arith, nat_abs-+ℤ c.args.d c.args.rem))

  less_fits : SFits w64 (c.args.d -ℤ c.args.rem)
  less_fits = fits_abs (omega (arith, nat_abs--ℤ c.args.d c.args.rem))

  abbrev back : ℤ
  back = step_of c.args.q (pos 0 -ℤ c.args.rem) (c.args.d +ℤ c.args.rem)

  abbrev on : ℤ
  on = step_of c.args.q c.args.rem (c.args.d -ℤ c.args.rem)

  previous_fits : SFits w64 (c.args.q -ℤ back)
  previous_fits = fits_abs (omega (arith, nat_abs--ℤ c.args.q back, step_most c.args.q (pos 0 -ℤ c.args.rem) (c.args.d +ℤ c.args.rem)))

  next_fits : SFits w64 (c.args.q +ℤ on)
  next_fits = fits_abs (omega (arith, nat_abs-+ℤ c.args.q on, step_most c.args.q c.args.rem (c.args.d -ℤ c.args.rem)))

back_is : (c : After-step) → to_z w64 (of_z w64 c.step.result) ≡ back c.before.before
back_is c =
    let s = c.before.before in
    to_z-of_z {w = w64} (record { sfits = c.step.type_inv })
    ∙ rw (to_z-of_z s.ranges.q, to_z-of_z s.ranges.d, to_z-of_z s.ranges.rem, to_z-of_z (neg_fits s), to_z-of_z (sum_fits s)) at c.step.ensures

on_is : (c : After-step-else-rem-lt0) → to_z w64 (of_z w64 c.step-else-rem-lt0.result) ≡ on c.before.before
on_is c =
    let s = c.before.before in
    to_z-of_z {w = w64} (record { sfits = c.step-else-rem-lt0.type_inv })
    ∙ rw (to_z-of_z s.ranges.q, to_z-of_z s.ranges.d, to_z-of_z s.ranges.rem, to_z-of_z (less_fits s)) at c.step-else-rem-lt0.ensures

pub returns-then-rem-lt0 : goal.returns-then-rem-lt0
returns-then-rem-lt0 c =
    let s = c.before.before in
    let n = rw (to_z-of_z s.ranges.rem) at c.if-rem-lt0.true in
    rw (to_z-of_z s.ranges.q, back_is c, to_z-of_z (previous_fits s))
    (r_step_down s.args.q s.args.rem s.args.d s.requires.0 (lt_yes {a = s.args.rem} {b = pos 0} n) (below _ _ s.requires.0 s.requires.2).0)

pub returns-else-rem-lt0 : goal.returns-else-rem-lt0
returns-else-rem-lt0 c =
    let s = c.before.before in
    let n = rw (to_z-of_z s.ranges.rem) at c.if-rem-lt0.false in
    rw (to_z-of_z s.ranges.q, on_is c, to_z-of_z (next_fits s))
    (r_step s.args.q s.args.rem s.args.d s.requires.0 (lt_no {a = s.args.rem} {b = pos 0} n) (below _ _ s.requires.0 s.requires.2).1)

pub overflow_sub-result : goal.overflow_sub-result
overflow_sub-result c = rw (to_z-of_z c.ranges.q, back_is c) (previous_fits c.before.before)

pub overflow_add-result : goal.overflow_add-result
overflow_add-result c = rw (to_z-of_z c.ranges.q, on_is c) (next_fits c.before.before)
