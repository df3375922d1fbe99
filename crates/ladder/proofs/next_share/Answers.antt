-- `ladder::next_share` meets its contract: a share past the cap and one below the least share are
-- outside the bounds. Assumes nothing.
use Rattle.std.proofs.Common.{◌≡◌, refl, sym, ◌∙◌, true, false, Some, None, ◌*◌, ◌^◌, ◌≤◌, ◌<◌, arith, ℤ, pos, negsuc, nat_abs, w64, to_z, of_z, to_z-of_z}
use lib.Signed.{lt_z}
use Rattle.integers.specs.Parts.{ints}
use Rattle.integers.specs.Order.{lt_yes, lt_no, nat_abs-≤}
use Rattle.model.specs.QuestionsLaws.{within_yes, below_no, above_no}
use Rattle.arithmetic.specs.Capped.{capped, within_is, over_is}
use Rattle.rounding.specs.Words.{fits_abs}
use Rattle.ladder.specs.Ladder.{bounded, share_in}
use Rattle.ladder.proofs.next_share.Goals as goal

too_far : (z : ℤ) → 4 * 10 ^ 9 < nat_abs z → bounded z ≡ false
too_far (pos n) h = above_no (pos (10 ^ 6)) (pos (4 * 10 ^ 9)) (pos n) (omega (arith, ints))
too_far (negsuc n) h = refl

past_cap : (z : ℤ) → capped (4 * 10 ^ 9) z ≡ None → share_in z ≡ None
unfolding share_in
past_cap z e = rw (too_far z (over_is (4 * 10 ^ 9) z e))

-- the number v that is handed on is the share
module _ (z v : ℤ) (e : capped (4 * 10 ^ 9) z ≡ Some v) where
  told : (z ≡ v) × (nat_abs z ≤ 4 * 10 ^ 9)
  told = within_is (4 * 10 ^ 9) z v e

  read : to_z w64 (of_z w64 v) ≡ z
  read = rw (← told.0) (to_z-of_z (fits_abs (omega (arith, told.1))))

  too_low : lt_z (to_z w64 (of_z w64 v)) (pos 1000000) ≡ true → share_in z ≡ None
  unfolding share_in
  too_low t = rw (below_no (pos (10 ^ 6)) (pos (4 * 10 ^ 9)) z (lt_yes (rw read at t)))

  inside : lt_z (to_z w64 (of_z w64 v)) (pos 1000000) ≡ false → share_in z ≡ Some (to_z w64 (of_z w64 v))
  unfolding share_in
  inside t = rw (read, within_yes (pos (10 ^ 6)) (pos (4 * 10 ^ 9)) z (lt_no (rw read at t)) (nat_abs-≤.0 told.1).0)

pub returns-in_err-v : goal.returns-in_err-v
returns-in_err-v c =
    c.from_residual.ensures ∙ sym (past_cap _ (sym (rw (to_z-of_z c.ranges.g, to_z-of_z c.ranges.a, to_z-of_z c.ranges.b) at c.in_err-v.ensures)))

pub returns-then-v-lt-LEAST : goal.returns-then-v-lt-LEAST
returns-then-v-lt-LEAST c =
    sym (too_low _ c.in_ok-v.v (sym (rw (to_z-of_z c.ranges.g, to_z-of_z c.ranges.a, to_z-of_z c.ranges.b) at c.in_ok-v.ensures)) c.if-v-lt-LEAST.true)

pub returns : goal.returns
returns c =
    sym (inside _ c.in_ok-v.v (sym (rw (to_z-of_z c.ranges.g, to_z-of_z c.ranges.a, to_z-of_z c.ranges.b) at c.in_ok-v.ensures)) c.if-v-lt-LEAST.false)
