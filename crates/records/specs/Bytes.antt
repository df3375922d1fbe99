-- Numbers of several bytes, and question 3 on the first eight of a record. Assumes nothing.
use Rattle.std.specs.Prelude.{ℕ, zero, suc, ◌+◌, ◌-◌, ◌*◌, ◌/◌, ◌%◌, ◌<◌, ◌≡◌, ◌&&◌, List, eqb, ltb, leb, get_or}
use Rattle.std.proofs.Common.{arith, ap, add-zero, ◌∙◌, eq-eqb, eqb-true, le-leb, leb-true, ltb-true, ltb-false, get_or-take, Fits, w8, w32, w64, take, drop, ◌^◌}
use Rattle.std.proofs.Math.Seq.{get_or-drop}
use Rattle.std.specs.Int.{from_le_bytes, cast_signed}
use Rattle.std.proofs.Math.Bool.{and-true, and_assoc}
use Rattle.model.specs.ListsLaws.{and_left, and_right}
use Rattle.model.specs.Records.{least_first, signed, line_at, spares_zero, inside, is_line}
use Rattle.model.specs.Tests.{by_test, same_test}
use Rattle.records.specs.OneRecord.{Number, HeadAt, well_formed, least_ext}

zero_both : (x y : ℕ) → eqb (x + 256 * y) 0 ≡ (eqb x 0 && eqb y 0)
zero_both x y =
    same_test (eqb (x + 256 * y) 0) (eqb x 0 && eqb y 0)
    (λ e. let z = eqb-true (x + 256 * y) 0 e in rw (eq-eqb x 0 (omega arith), eq-eqb y 0 (omega arith)))
    (λ e. let p = eqb-true x 0 (and_left (eqb x 0) (eqb y 0) e) in
    let q = eqb-true y 0 (and_right (eqb x 0) (eqb y 0) e) in eq-eqb (x + 256 * y) 0 (omega arith))

-- a line has no part of 256 or more
lined : (x y v : ℕ) → (is_line v && eqb (x + 256 * y) v) ≡ ((is_line x && eqb x v) && eqb y 0)
lined x y v =
    same_test (leb v 5 && eqb (x + 256 * y) v) ((leb x 5 && eqb x v) && eqb y 0)
    (λ e. let a = leb-true v 5 (and_left (leb v 5) (eqb (x + 256 * y) v) e) in
    let b = eqb-true (x + 256 * y) v (and_right (leb v 5) (eqb (x + 256 * y) v) e) in
    rw (le-leb x 5 (omega arith), eq-eqb x v (omega arith), eq-eqb y 0 (omega arith)))
    (λ e. let p = and_left (leb x 5 && eqb x v) (eqb y 0) e in
    let a = leb-true x 5 (and_left (leb x 5) (eqb x v) p) in
    let b = eqb-true x v (and_right (leb x 5) (eqb x v) p) in
    let c = eqb-true y 0 (and_right (leb x 5 && eqb x v) (eqb y 0) e) in
    rw (le-leb v 5 (omega arith), eq-eqb (x + 256 * y) v (omega arith)))

-- ---- numbers as `from_le_bytes` reads them from a part of a file

pub from_four : (bs : List ℕ) → from_le_bytes w32 bs ≡ least_first 4 bs 0
unfolding least_first
from_four bs = omega arith

pub from_eight : (bs : List ℕ) → from_le_bytes w64 bs ≡ least_first 8 bs 0
unfolding least_first
from_eight bs = omega arith

-- a word as std reads it with a sign
pub signed_is : (x : ℕ) → cast_signed w64 x ≡ signed x
unfolding signed
signed_is x = by_test (ltb x (2 ^ 63)) (λ e. rw e) (λ e. rw e)

-- bs is the n bytes of a file from place a on
abbrev pub Part : ℕ → List ℕ → ℕ → List ℕ → Type 0
Part n f a bs = bs ≡ take (a + n - a) (drop a f)

pub least_part : (n : ℕ) (f : List ℕ) (a : ℕ) (bs : List ℕ) → Part n f a bs → least_first n bs 0 ≡ least_first n f a
least_part n f a bs e =
    least_ext n bs f 0 a (λ i l. rw e (get_or-take (a + n - a) (drop a f) (0 + i) 0 (omega arith) ∙ get_or-drop a f (0 + i) 0 ∙ ap (λ (j : ℕ). get_or f (a + j) 0) (omega arith)))

module _ (f : List ℕ) (each : (i : ℕ) → Fits w8 (get_or f i 0)) where
  least_small : (n a : ℕ) → least_first n f a < 256 ^ n
  unfolding least_first
  least_small zero a = omega arith
  least_small (suc n) a = omega (arith, each a, least_small n (a + 1))

  pub number : (n a : ℕ) (bs : List ℕ) {r : ℕ} → Part n f a bs → r ≡ least_first n bs 0 → Number n f a r
  number n a bs p e =
      let z = e ∙ least_part n f a bs p in
      record { is = z; small = omega (arith, least_small n a); byte = λ i l. omega (arith, each (a + i)) }

module _ (f : List ℕ) where
  pub least_two : (a : ℕ) → least_first 2 f a ≡ get_or f a 0 + 256 * get_or f (a + 1) 0
  unfolding least_first
  least_two a = omega arith

  pub least_four : (a : ℕ) → least_first 4 f a ≡ least_first 2 f a + 65536 * least_first 2 f (a + 2)
  unfolding least_first
  least_four a = let e : a + 1 + 1 ≡ a + 2 = omega arith in rw e (omega arith)

  pub least_eight : (a : ℕ) → least_first 8 f a ≡ least_first 4 f a + 4294967296 * least_first 4 f (a + 4)
  unfolding least_first
  least_eight a = let e : a + 1 + 1 + 1 + 1 ≡ a + 4 = omega arith in rw e (omega arith)

  -- two bytes, and the bytes of one number and then those of another
  pub bytes_two : (a : ℕ) → get_or f a 0 < 256 → get_or f (a + 1) 0 < 256 → (i : ℕ) → i < 2 → get_or f (a + i) 0 < 256
  bytes_two a x y zero h = rw add-zero x
  bytes_two a x y (suc zero) h = y
  bytes_two a x y (suc (suc i)) h = absurd (omega arith)

  pub bytes_then : (n k a : ℕ) → ((i : ℕ) → i < n → get_or f (a + i) 0 < 256) → ((i : ℕ) → i < k → get_or f (a + n + i) 0 < 256) → (i : ℕ) → i < n + k → get_or f (a + i) 0 < 256
  bytes_then n k a front back i h =
      by_test (ltb i n) (λ e. front i (ltb-true i n e))
      (λ e. let l = ltb-false i n e in let z : a + n + (i - n) ≡ a + i = omega arith in rw z at (back (i - n) (omega arith)))

  -- the last four of eight
  least_head : (a : ℕ) → least_first 8 f a ≡ get_or f a 0 + 256 * (get_or f (a + 1) 0 + 256 * (get_or f (a + 2) 0 + 256 * (get_or f (a + 3) 0 + 256 * least_first 4 f (a + 4))))
  unfolding least_first
  least_head a =
      let e : a + 1 + 1 ≡ a + 2 = omega arith in
      let g : a + 2 + 1 ≡ a + 3 = omega arith in
      let h : a + 3 + 1 ≡ a + 4 = omega arith in
      rw (e, g, h)

  spares_sum : (k : ℕ) → eqb (least_first 4 f (16 * k + 4)) 0 ≡ spares_zero f k
  unfolding least_first spares_zero
  spares_sum k =
      let y : 16 * k + 4 + 1 ≡ 16 * k + 5 = omega arith in
      let z : 16 * k + 5 + 1 ≡ 16 * k + 6 = omega arith in
      let w : 16 * k + 6 + 1 ≡ 16 * k + 7 = omega arith in
      rw (y, z, w) (simp (zero_both, and_assoc, and-true))

  pub head_at : (k w : ℕ) → Number 8 f (16 * k) w → HeadAt f k (w % 256) (w / 256 % 256) (w / 65536 % 256) (w / 16777216)
  head_at k w n =
      let e = n.is ∙ least_head (16 * k) in
      let a : get_or f (16 * k) 0 < 256 = rw add-zero at (n.byte 0 (omega arith)) in
      let b = n.byte 1 (omega arith) in
      let c = n.byte 2 (omega arith) in
      record { kind_is = omega arith; year_is = (omega arith, omega arith); delay_is = (omega arith, omega arith); line_is = omega arith }

  pub head_formed : (m u v k : ℕ) {kind year delay line : ℕ} → HeadAt f k kind year delay line → (ltb kind u && inside m year delay && (is_line v && eqb line v)) ≡ well_formed m u v f k
  unfolding well_formed
  head_formed m u v k h = rw (h.kind_is, h.year_is.0, h.delay_is.0, h.line_is, lined (line_at f k) _ v, spares_sum k) (simp and_assoc)
