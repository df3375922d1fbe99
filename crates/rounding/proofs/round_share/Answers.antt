-- `rounding::round_share` meets its contract: part's quotient and remainder by n, and those of
-- what the remainder comes to, make up the whole sum. Assumes nothing.
use Rattle.std.proofs.Common.{◌≡◌, ap, ◌∙◌, [], ◌∷◌, ◌*◌, ◌^◌, ◌≤◌, le_refl, mul-le-mul, arith, ℤ, nat_abs, ◌+ℤ◌, ◌*ℤ◌, w64, SFits, to_z-of_z}
use lib.Signed.{quot_z, rem_z}
use Rattle.integers.specs.Order.{nat_abs-+ℤ, nat_abs-*ℤ}
use Rattle.integers.specs.Solver.{ring, form}
use Rattle.model.specs.Rounding.{r}
use Rattle.rounding.specs.Words.{fits_abs}
use Rattle.rounding.specs.Truncated.{Truncated, truncated}
use Rattle.rounding.proofs.round_share.Goals as goal
use Rattle.rounding.proofs.round_share.Goals.{Start}

-- the parts of (whole × n + part × k) / n, with part = q × n + rem and rem × k = q' × n + rem'
module _ (whole part k n q rem q' rem' : ℤ) where
  together : q *ℤ n +ℤ rem ≡ part → q' *ℤ n +ℤ rem' ≡ rem *ℤ k → (whole +ℤ q *ℤ k +ℤ q') *ℤ n +ℤ rem' ≡ whole *ℤ n +ℤ part *ℤ k
  together e d =
      let a : (whole +ℤ q *ℤ k +ℤ q') *ℤ n +ℤ rem' ≡ (whole +ℤ q *ℤ k) *ℤ n +ℤ (q' *ℤ n +ℤ rem') = ring (whole ∷ k ∷ n ∷ q ∷ q' ∷ rem' ∷ []) (search form depth 20) tt in
      let b : (whole +ℤ q *ℤ k) *ℤ n +ℤ rem *ℤ k ≡ whole *ℤ n +ℤ (q *ℤ n +ℤ rem) *ℤ k = ring (whole ∷ k ∷ n ∷ q ∷ rem ∷ []) (search form depth 20) tt in
      a ∙ ap (λ (z : ℤ). (whole +ℤ q *ℤ k) *ℤ n +ℤ z) d ∙ b ∙ ap (λ (z : ℤ). whole *ℤ n +ℤ z *ℤ k) e

module _ (c : Start) where
  abbrev whole : ℤ
  whole = c.args.whole

  abbrev part : ℤ
  part = c.args.part

  abbrev k : ℤ
  k = c.args.k

  abbrev n : ℤ
  n = c.args.n

  abbrev left : ℤ
  left = rem_z part n *ℤ k

  first : Truncated part n
  first = truncated part n c.requires.pos.0

  second : Truncated left n
  second = truncated left n c.requires.pos.0

  quot_fits : SFits w64 (quot_z part n)
  quot_fits = fits_abs (omega (arith, first.quot, c.requires.whole_bound.1))

  rem_fits : SFits w64 (rem_z part n)
  rem_fits = fits_abs (omega (arith, first.rem, c.requires.pos.1))

  left_most : nat_abs left ≤ 1000 * 1000
  left_most =
      let x : nat_abs (rem_z part n) ≤ 1000 = omega (arith, first.rem, c.requires.pos.1) in
      let y : nat_abs k ≤ 1000 = omega (arith, c.requires.pos.1, c.requires.pos.2) in
      omega (arith, nat_abs-*ℤ (rem_z part n) k, mul-le-mul x y)

  left_fits : SFits w64 left
  left_fits = fits_abs (omega (arith, left_most))

  -- the quotient times k is no larger than part
  times_most : nat_abs (quot_z part n *ℤ k) ≤ 10 ^ 18
  times_most =
      let u : nat_abs k ≤ nat_abs n = c.requires.pos.2 in
      omega (arith, nat_abs-*ℤ (quot_z part n) k, mul-le-mul (le_refl (nat_abs (quot_z part n))) u, first.times, c.requires.whole_bound.1)

  times_fits : SFits w64 (quot_z part n *ℤ k)
  times_fits = fits_abs (omega (arith, times_most))

  sum_most : nat_abs (whole +ℤ quot_z part n *ℤ k) ≤ 5 * 10 ^ 18
  sum_most = omega (arith, nat_abs-+ℤ whole (quot_z part n *ℤ k), times_most, c.requires.whole_bound.0)

  sum_fits : SFits w64 (whole +ℤ quot_z part n *ℤ k)
  sum_fits = fits_abs (omega (arith, sum_most))

  left_quot_fits : SFits w64 (quot_z left n)
  left_quot_fits = fits_abs (omega (arith, second.quot, left_most))

  left_rem_fits : SFits w64 (rem_z left n)
  left_rem_fits = fits_abs (omega (arith, second.rem, c.requires.pos.1))

  all_most : nat_abs (whole +ℤ quot_z part n *ℤ k +ℤ quot_z left n) ≤ 9 * 10 ^ 18
  all_most = omega (arith, nat_abs-+ℤ (whole +ℤ quot_z part n *ℤ k) (quot_z left n), sum_most, second.quot, left_most)

  all_fits : SFits w64 (whole +ℤ quot_z part n *ℤ k +ℤ quot_z left n)
  all_fits = fits_abs (omega (arith, all_most))

pub returns : goal.returns
returns c =
    let s = c.before in
    to_z-of_z {w = w64} (record { sfits = c.round_quotient.type_inv })
    ∙ rw (
      to_z-of_z s.ranges.whole,
      to_z-of_z s.ranges.part,
      to_z-of_z s.ranges.k,
      to_z-of_z s.ranges.n,
      to_z-of_z (quot_fits s),
      to_z-of_z (rem_fits s),
      to_z-of_z (left_fits s),
      to_z-of_z (times_fits s),
      to_z-of_z (sum_fits s),
      to_z-of_z (left_quot_fits s),
      to_z-of_z (left_rem_fits s),
      to_z-of_z (all_fits s),
    ) at c.round_quotient.ensures
    ∙ ap (λ (z : ℤ). r z (n s)) (together (whole s) (part s) (k s) (n s) (quot_z (part s) (n s)) (rem_z (part s) (n s)) (quot_z (left s) (n s)) (rem_z (left s) (n s)) (first s).whole (second s).whole)

pub round_quotient-requires : goal.round_quotient-requires
round_quotient-requires c =
    rw (
      to_z-of_z c.ranges.whole,
      to_z-of_z c.ranges.part,
      to_z-of_z c.ranges.k,
      to_z-of_z c.ranges.n,
      to_z-of_z (quot_fits c),
      to_z-of_z (rem_fits c),
      to_z-of_z (left_fits c),
      to_z-of_z (times_fits c),
      to_z-of_z (sum_fits c),
      to_z-of_z (left_quot_fits c),
      to_z-of_z (left_rem_fits c),
      to_z-of_z (all_fits c),
    )
    (c.requires.pos.0, omega (arith, c.requires.pos.1), (second c).rem, all_most c)

pub overflow_mul-left : goal.overflow_mul-left
overflow_mul-left c = rw (to_z-of_z c.ranges.part, to_z-of_z c.ranges.n, to_z-of_z c.ranges.k, to_z-of_z (rem_fits c)) (left_fits c)

pub overflow_mul-part : goal.overflow_mul-part
overflow_mul-part c = rw (to_z-of_z c.ranges.part, to_z-of_z c.ranges.n, to_z-of_z c.ranges.k, to_z-of_z (quot_fits c)) (times_fits c)

pub overflow_add-whole : goal.overflow_add-whole
overflow_add-whole c = rw (to_z-of_z c.ranges.whole, to_z-of_z c.ranges.part, to_z-of_z c.ranges.n, to_z-of_z c.ranges.k, to_z-of_z (quot_fits c), to_z-of_z (times_fits c)) (sum_fits c)

pub nonzero_div-left : goal.nonzero_div-left
nonzero_div-left c = ((first c).some, rw (to_z-of_z c.ranges.part, to_z-of_z c.ranges.n, to_z-of_z c.ranges.k, to_z-of_z (rem_fits c), to_z-of_z (left_fits c)) (left_quot_fits c))

pub overflow_add-whole-2 : goal.overflow_add-whole-2
overflow_add-whole-2 c =
    rw (
      to_z-of_z c.ranges.whole,
      to_z-of_z c.ranges.part,
      to_z-of_z c.ranges.n,
      to_z-of_z c.ranges.k,
      to_z-of_z (quot_fits c),
      to_z-of_z (rem_fits c),
      to_z-of_z (left_fits c),
      to_z-of_z (times_fits c),
      to_z-of_z (sum_fits c),
      to_z-of_z (left_quot_fits c),
    ) (all_fits c)

pub nonzero_rem-left-2 : goal.nonzero_rem-left-2
nonzero_rem-left-2 c = ((first c).some, rw (to_z-of_z c.ranges.part, to_z-of_z c.ranges.n, to_z-of_z c.ranges.k, to_z-of_z (rem_fits c), to_z-of_z (left_fits c)) (left_quot_fits c))
