-- `scaling::scale_cell` meets its contract: what the digits below the quotient say, and the
-- sign. Assumes nothing.
use Rattle.std.proofs.Common.{◌≡◌, refl, sym, ap, ap₂, ◌∙◌, not, [], ◌∷◌, ℕ, ◌+◌, ◌*◌, ◌/◌, ◌%◌, ◌^◌, ◌<◌, arith, leb, leb-true, leb-false, ℤ, pos, nat_abs, ◌*ℤ◌, w64, to_z, to_z-of_z}
use mathlib.Core.Bool.{beq}
use lib.Signed.{lt_z}
use mir.Facts.{to_z_pos}
use Rattle.integers.specs.Parts.{◌⋖◌, ints}
use Rattle.integers.specs.Solver.{ring, form}
use Rattle.model.specs.Rounding.{S, r}
use Rattle.std.specs.Int.{from_bool}
use Rattle.std.proofs.lemmas.Bool.Decides.{nat_tests}
use Rattle.model.specs.Tests.{by_test}
use Rattle.rounding.specs.RoundingLaws.{r_unique, r_exact}
use Rattle.rounding.specs.Signed.{turned, r_turned, signed-*}
use Rattle.rounding.specs.Words.{abs_read, equal_words}
use Rattle.scaling.proofs.scale_cell.Goals as goal
use Rattle.scaling.proofs.scale_cell.Goals.{After-divide_by_square-s, After-lowest_digit, After-magnitude, After-magnitude-2, After-from, Start}

abbrev base : ℕ
base = 1000000000

abbrev square : ℕ
square = 1000000000000000000

square_is : S *ℤ S ≡ pos square
unfolding S
square_is = refl

square_pos : pos 0 ⋖ S *ℤ S
square_pos = rw square_is (omega (arith, ints))

nothing : (v : ℤ) → pos 0 ≡ r (v *ℤ pos 0) (S *ℤ S)
nothing v =
    let e : v *ℤ pos 0 ≡ pos 0 *ℤ (S *ℤ S) = ring (v ∷ S ∷ []) (search form depth 20) tt in
    rw e (sym (r_exact (pos 0) (S *ℤ S) square_pos))

-- n / S by a quotient and a digit that is not just half of the base: one more is the nearest number
-- where the digit is past the half
nearer : (n q d : ℕ) → q * base + d ≡ n / base → d < base → (d ≡ 500000000 → ⊥) → r (pos n) (S *ℤ S) ≡ pos (q + from_bool (leb 500000000 d))
nearer n q d e u other =
    rw square_is
    (by_test (leb 500000000 d)
    (λ t. let b = leb-true 500000000 d t in rw t (r_unique (pos n) (pos square) (pos (q + 1)) (omega (arith, ints)) (omega (arith, ints, other)) (omega (arith, ints, other))))
    (λ t. let b = leb-false 500000000 d t in rw t (r_unique (pos n) (pos square) (pos (q + 0)) (omega (arith, ints)) (omega (arith, ints)) (omega (arith, ints)))))

v_is : (c : After-magnitude) → c.magnitude.result ≡ nat_abs c.args.v
v_is c = c.magnitude.ensures ∙ abs_read c.ranges.v

x_is : (c : After-magnitude-2) → c.magnitude-2.result ≡ nat_abs c.args.x
x_is c = c.magnitude-2.ensures ∙ abs_read c.ranges.x

-- the product of the magnitudes
abbrev n : Start → ℕ
n s = nat_abs s.args.v * nat_abs s.args.x

whole : (c : After-divide_by_square-s) → c.divide_by_square-s.result.q * base + c.divide_by_square-s.result.rem ≡ n c.before.before.before.before / base
whole c = c.divide_by_square-s.ensures.0 ∙ ap₂ (λ (v x : ℕ). v * x / base) (v_is c.before.before) (x_is c.before)

lowest_is : (c : After-lowest_digit) → c.lowest_digit.result ≡ n c.before.before.before.before.before.before.before.before % base
lowest_is c =
    c.lowest_digit.ensures ∙ ap₂ (λ (v x : ℕ). v * x % base) (abs_read c.ranges.v) (abs_read c.ranges.x)

k_back : (c : After-from) → to_z w64 (c.divide_by_square-s.result.q + c.from.result) ≡ pos (c.divide_by_square-s.result.q + c.from.result)
k_back c =
    let h : c.divide_by_square-s.result.q + c.from.result < 2 ^ 63 = grind (arith, nat_tests) in
    to_z_pos w64 h

pub returns-then-x-eq0 : goal.returns-then-x-eq0
returns-then-x-eq0 c =
    let e : c.args.x ≡ pos 0 = equal_words c.ranges.x (record { sfits = omega arith }) c.if-x-eq0.true in
    rw e (nothing c.args.v)

pub returns-then-s-eq-HALF_SCALE : goal.returns-then-s-eq-HALF_SCALE
returns-then-s-eq-HALF_SCALE c =
    let l = c.before in
    let d = l.before.before.before.before in
    let s = d.before.before.before.before in
    let number : d.divide_by_square-s.result.q * square + (d.divide_by_square-s.result.rem * base + l.lowest_digit.result) ≡ n s = omega (arith, whole d, lowest_is l) in
    let e = rw (to_z-of_z s.ranges.v, to_z-of_z s.ranges.x, number, sym square_is) at c.round_signed.ensures in
    to_z-of_z {w = w64} (record { sfits = c.round_signed.type_inv }) ∙ e ∙ ap (λ (z : ℤ). r z (S *ℤ S)) (signed-* s.args.v s.args.x)

pub returns : goal.returns
returns c =
    let k = c.before.before in
    let d = k.before.before.before.before in
    let s = d.before.before.before.before in
    let t = not (beq (lt_z s.args.v (pos 0)) (lt_z s.args.x (pos 0))) in
    let e = rw (to_z-of_z s.ranges.v, to_z-of_z s.ranges.x, k_back k) at c.with_sign.ensures in
    let near = nearer (n s) c.divide_by_square-s.result.q c.divide_by_square-s.result.rem (whole d) c.divide_by_square-s.ensures.1 c.if-s-eq-HALF_SCALE.false in
    to_z-of_z {w = w64} (record { sfits = c.with_sign.type_inv }) ∙ e ∙ ap (turned t) (rw c.from.ensures (sym near)) ∙ sym (r_turned t (pos (n s)) (S *ℤ S) square_pos)
    ∙ ap (λ (z : ℤ). r z (S *ℤ S)) (signed-* s.args.v s.args.x)
