-- Laws of the quotient of two whole numbers as binary64. Assumes nothing.
use Rattle.std.specs.Prelude.{◌≡◌, true, false, ℕ, ◌*◌, ◌^◌, ◌<◌, T, ℤ, pos, negsuc, nat_abs, Float}
use Rattle.std.proofs.Common.{sym, subst, true≢false, mul-pos, mul_comm, mul_assoc, mul_left_comm, arith, le-leb, lt-ltb, ne_eqb, ltb→lt}
use denote.Floats.{passes}
use Rattle.std.specs.Float.{nan, inf, fin, binary64}
use Rattle.std.specs.Float.Ieee.{up, down, round, div, of_int, in_float}
use Rattle.std.specs.Float.Ieee.Fits.{up_pos, down_pos}
use Rattle.std.specs.Float.Ieee.Exact.{HasValue}
use Rattle.std.specs.Float.Ieee.Scale.{round_same}
use Rattle.std.specs.Float.Ieee.Order.{round_mono}
use Rattle.std.specs.Float.Ieee.Back.{round_whole}
use Rattle.std.specs.Float.Ieee.Positive.{positive, positive_of_value, between}
use Rattle.integers.specs.Parts.{◌⋖◌, ints}
use Rattle.model.specs.ClaimCosts.{quotient}
use Rattle.claim_costs.specs.Costs.{Exact}

-- binary64 holds a whole number below 2^53 exactly
pub held : (z : ℤ) → nat_abs z < 2 ^ 53 → T (in_float binary64 z)
unfolding in_float
held (pos n) h = passes _ (le-leb n (2 ^ 53) (omega arith))
held (negsuc n) h = passes _ (lt-ltb n (2 ^ 53) (omega arith))

-- the division of two whole numbers that are held
div_at : (x y : Float) (a b : ℕ) → HasValue x false a 1 → HasValue y false b 1 → 0 < b → div binary64 x y ≡ round binary64 false a b
unfolding div
div_at nan y a b h k p = absurd h
div_at (inf s) y a b h k p = absurd h
div_at (fin true m e) y a b h k p = absurd (true≢false h.0)
div_at (fin false m e) nan a b h k p = absurd k
div_at (fin false m e) (inf t) a b h k p = absurd k
div_at (fin false m e) (fin true n d) a b h k p = absurd (true≢false k.0)
div_at (fin false m e) (fin false n d) a b h k p =
    let some : 0 < n = ltb→lt 0 n (positive_of_value (fin false n d) b 1 k p) in
    rw (ne_eqb n 0 (λ z. omega arith))
    (round_same binary64 false (m * up e * down d) (n * up d * down e) a b (mul-pos (mul-pos some (up_pos d)) (down_pos e)) p
    (crossed a b (m * up e) (n * up d) (down e) (down d) h.1 k.1))
  where
    crossed : (a b x y c d : ℕ) → x * 1 ≡ a * c → y * 1 ≡ b * d → x * d * b ≡ a * (y * c)
    crossed a b x y c d h k =
        let p : x ≡ a * c = omega arith in
        let q : y ≡ b * d = omega arith in
        rw (p, q) (simp (mul_assoc, mul_comm, mul_left_comm))

-- a quotient of whole numbers from 1 up is finite and above zero
pub quotient_positive : (x y : ℤ) → Exact x y → pos 0 ⋖ x → T (positive (quotient x y))
unfolding quotient of_int
quotient_positive (pos a) (pos b) q h =
    let above : 0 < a = omega (arith, ints) in
    let below : 0 < b = omega (arith, ints) in
    subst (λ (z : Float). T (positive z))
    (sym (div_at _ _ a b (round_whole binary64 false a (omega arith)) (round_whole binary64 false b (omega arith)) below))
    (between (round binary64 false 1 (2 ^ 53)) (round binary64 false a b) (round binary64 false (2 ^ 53) 1) tt tt
    (round_mono binary64 1 (2 ^ 53) a b (omega arith) below (omega arith))
    (round_mono binary64 a b (2 ^ 53) 1 below (omega arith) (omega arith)))
quotient_positive (pos a) (negsuc b) q h = absurd q.divisor.lt
quotient_positive (negsuc a) y q h = absurd h.lt
