-- Laws of the text of a tally: its parts in the order in which they are written, and its length.
-- Assumes nothing.
use Rattle.std.specs.Prelude.{◌≡◌, true, List, [], ◌∷◌, ◌++◌, ℕ, zero, suc, ◌+◌, ◌-◌, ◌*◌, ◌^◌, ◌≤◌, ◌<◌, ℤ, ◌+ℤ◌, length}
use Rattle.std.proofs.Math.Path.{refl}
use Rattle.std.proofs.Common.{sym, ap, ◌∙◌, append_assoc, le_refl, add-one, arith, length-append}
use Rattle.std.proofs.Math.Decide.{le_ind}
use Rattle.integers.specs.Sums.{sum}
use Rattle.model.specs.Lists.{at}
use Rattle.model.specs.Calendar.{digits, amount, line, lines, all_lines, tally_text, refusal_text}
use Rattle.year_tally.specs.TallyAdd.{fits64}
use Rattle.year_tally.specs.declared.Tally.{Tally}
use Rattle.text.specs.Digits.{digits_length}
use Rattle.text.specs.Amount.{amount_length, aligned_none}
use Rattle.model.specs.Page.{aligned}
use Rattle.tally_text.specs.declared.Layout.{Layout}
use Rattle.tally.specs.Printable.{Printable}

-- a space and an amount
unfoldable pub field : ℤ → List ℕ
field z = (32 ∷ []) ++ amount z

-- what stands behind a line's name
unfoldable pub sums : ℤ → ℤ → List ℕ
sums x y = field x ++ field y ++ field (x +ℤ y) ++ (10 ∷ [])

-- the same with the amounts at the right of `width` bytes
unfoldable pub field_in : ℕ → ℤ → List ℕ
field_in width z = (32 ∷ []) ++ aligned width (amount z)

unfoldable pub sums_in : ℕ → ℤ → ℤ → List ℕ
sums_in width x y = field_in width x ++ field_in width y ++ field_in width (x +ℤ y) ++ (10 ∷ [])

-- a line in a layout
unfoldable pub laid : Layout → List ℕ → ℤ → ℤ → List ℕ
laid o name x y = aligned o.year name ++ sums_in o.amount x y

-- that of `closing`'s text
abbrev pub plain : Layout
plain = record { year = 0; amount = 0 }

-- ---- the parts

grouped : (n s a b c e : List ℕ) → n ++ s ++ a ++ s ++ b ++ s ++ c ++ e ≡ n ++ ((s ++ a) ++ (s ++ b) ++ (s ++ c) ++ e)
grouped n s a b c e = simp append_assoc

pub line_is_lem : (name : List ℕ) (x y : ℤ) → line name x y ≡ name ++ sums x y
unfolding line sums field
line_is_lem name x y = grouped name (32 ∷ []) (amount x) (amount y) (amount (x +ℤ y)) (10 ∷ [])

-- the lines in any layout
module _ (layout : List ℕ → ℤ → ℤ → List ℕ) (t : Tally) where
  pub lines_none : lines layout t 0 ≡ []
  unfolding lines
  lines_none = refl

  pub lines_next : (k : ℕ) → lines layout t (k + 1) ≡ lines layout t k ++ layout (digits (k + 1)) (at t.rbns k) (at t.ibnr k)
  unfolding lines
  lines_next k = rw (add-one k)

pub text_next : (t : Tally) (k : ℕ) → lines line t (k + 1) ≡ lines line t k ++ (digits (k + 1) ++ sums (at t.rbns k) (at t.ibnr k))
text_next t k = lines_next line t k ∙ rw (line_is_lem (digits (k + 1)) (at t.rbns k) (at t.ibnr k))

-- the last line
abbrev pub totals : ℕ → Tally → List ℕ
totals n t = (84 ∷ []) ++ sums (sum n (at t.rbns)) (sum n (at t.ibnr))

pub tally_text_is : (m : ℕ) (t : Tally) → tally_text m t ≡ lines line t (2 * m - 2) ++ totals (2 * m - 2) t
unfolding tally_text all_lines
tally_text_is m t = rw (line_is_lem (84 ∷ []) (sum (2 * m - 2) (at t.rbns)) (sum (2 * m - 2) (at t.ibnr)))

-- ---- their lengths

pub field_size : (z : ℤ) → length (field z) ≡ 1 + length (amount z)
unfolding field
field_size z = omega arith

pub sums_size : (x y : ℤ) → length (sums x y) ≡ length (field x) + length (field y) + length (field (x +ℤ y)) + 1
unfolding sums
sums_size x y = simp length-append

next_size : (t : Tally) (k : ℕ) → length (lines line t (k + 1)) ≡ length (lines line t k) + (length (digits (k + 1)) + length (sums (at t.rbns k) (at t.ibnr k)))
next_size t k = ap length (text_next t k) ∙ simp length-append

pub tally_text_size : (m : ℕ) (t : Tally) → length (tally_text m t) ≡ length (lines line t (2 * m - 2)) + (1 + length (sums (sum (2 * m - 2) (at t.rbns)) (sum (2 * m - 2) (at t.ibnr))))
tally_text_size m t = ap length (tally_text_is m t) ∙ simp length-append (omega arith)

-- the next line has room where n lines have it
pub next_room : (t : Tally) (k n : ℕ) → k < n → length (lines line t k) + (length (digits (k + 1)) + length (sums (at t.rbns k) (at t.ibnr k))) ≤ length (lines line t n)
next_room t k n h =
    rw (sym (next_size t k))
    (le_ind (λ i. length (lines line t (k + 1)) ≤ length (lines line t i)) (le_refl (length (lines line t (k + 1))))
    (λ i l e. rw (sym (add-one i)) (omega (arith, next_size t i))) n (omega arith))

pub refusal_size : (n : ℕ) → length (refusal_text n) ≡ 9 + length (digits n)
unfolding refusal_text
refusal_size n = simp length-append (omega arith)

pub refusal_short : (n : ℕ) → n < 10 ^ 20 → length (refusal_text n) ≤ 2573
refusal_short n h = omega (arith, refusal_size n, digits_length 19 n h)

-- ---- at most 2,573 bytes: 38 lines of 66 and one of 65

sums_length : (x y : ℤ) → fits64 x ≡ true → fits64 y ≡ true → fits64 (x +ℤ y) ≡ true → length (sums x y) ≤ 64
sums_length x y a b c =
    omega (arith, sums_size x y, field_size x, field_size y, field_size (x +ℤ y), amount_length x a, amount_length y b, amount_length (x +ℤ y) c)

module _ (m : ℕ) (t : Tally) (few : m ≤ 20) (p : Printable m t) where
  lines_length : (n : ℕ) → n ≤ 2 * m - 2 → length (lines line t n) ≤ 66 * n
  lines_length zero h = rw (lines_none line t) (omega arith)
  lines_length (suc n) h =
      rw (sym (add-one n))
      (omega (
        arith,
        next_size t n,
        lines_length n (omega arith),
        digits_length 1 (n + 1) (omega arith),
        sums_length (at t.rbns n) (at t.ibnr n) (p.first n (omega arith)) (p.second n (omega arith)) (p.both n (omega arith)),
      ))

  pub tally_text_length : length (tally_text m t) ≤ 2573
  tally_text_length =
      let n = 2 * m - 2 in
      let s = sums_length (sum n (at t.rbns)) (sum n (at t.ibnr)) (p.first_total n (omega arith)) (p.second_total n (omega arith)) p.total in
      omega (arith, tally_text_size m t, lines_length n (omega arith))

-- ---- in a layout

-- two layouts in which each line is the same
pub lines_same : (a b : List ℕ → ℤ → ℤ → List ℕ) (t : Tally) (n : ℕ)
    → ((k : ℕ) → k < n → a (digits (k + 1)) (at t.rbns k) (at t.ibnr k) ≡ b (digits (k + 1)) (at t.rbns k) (at t.ibnr k)) → lines a t n ≡ lines b t n
lines_same a b t zero h = lines_none a t ∙ sym (lines_none b t)
lines_same a b t (suc n) h =
    rw (sym (add-one n)) (lines_next a t n ∙ rw (lines_same a b t n (λ k l. h k (omega arith)), h n (omega arith)) (sym (lines_next b t n)))

sums_plain : (x y : ℤ) → sums_in 0 x y ≡ sums x y
unfolding sums_in field_in sums field
sums_plain x y = rw (aligned_none (amount x), aligned_none (amount y), aligned_none (amount (x +ℤ y)))

pub plain_lines : (t : Tally) (n : ℕ) → lines line t n ≡ lines (laid plain) t n
unfolding laid
plain_lines t n =
    lines_same line (laid plain) t n
    (λ k l. line_is_lem (digits (k + 1)) (at t.rbns k) (at t.ibnr k) ∙ rw (aligned_none (digits (k + 1)), sums_plain (at t.rbns k) (at t.ibnr k)))

module _ (o : Layout) (t : Tally) where
  pub laid_next : (k : ℕ) → lines (laid o) t (k + 1) ≡ lines (laid o) t k ++ (aligned o.year (digits (k + 1)) ++ sums_in o.amount (at t.rbns k) (at t.ibnr k))
  unfolding laid
  laid_next k = lines_next (laid o) t k

  laid_size : (k : ℕ) → length (lines (laid o) t (k + 1)) ≡ length (lines (laid o) t k) + (length (aligned o.year (digits (k + 1))) + length (sums_in o.amount (at t.rbns k) (at t.ibnr k)))
  laid_size k = ap length (laid_next k) ∙ simp length-append

  -- the next line has room where n lines have it
  pub laid_room : (k n : ℕ) → k < n
      → length (lines (laid o) t k) + (length (aligned o.year (digits (k + 1))) + length (sums_in o.amount (at t.rbns k) (at t.ibnr k))) ≤ length (lines (laid o) t n)
  laid_room k n h =
      rw (sym (laid_size k))
      (le_ind (λ i. length (lines (laid o) t (k + 1)) ≤ length (lines (laid o) t i)) (le_refl (length (lines (laid o) t (k + 1))))
      (λ i l e. rw (sym (add-one i)) (omega (arith, laid_size i))) n (omega arith))

pub field_in_size : (width : ℕ) (z : ℤ) → length (field_in width z) ≡ 1 + length (aligned width (amount z))
unfolding field_in
field_in_size width z = omega arith

pub sums_in_size : (width : ℕ) (x y : ℤ) → length (sums_in width x y) ≡ length (field_in width x) + length (field_in width y) + length (field_in width (x +ℤ y)) + 1
unfolding sums_in
sums_in_size width x y = simp length-append

-- the text of a tally in the plain layout
pub plain_text : (m : ℕ) (t : Tally)
    → tally_text m t ≡ lines (laid plain) t (2 * m - 2) ++ ((84 ∷ []) ++ sums_in 0 (sum (2 * m - 2) (at t.rbns)) (sum (2 * m - 2) (at t.ibnr)))
plain_text m t =
    tally_text_is m t ∙ rw (plain_lines t (2 * m - 2), sums_plain (sum (2 * m - 2) (at t.rbns)) (sum (2 * m - 2) (at t.ibnr)))

pub plain_size : (m : ℕ) (t : Tally)
    → length (tally_text m t) ≡ length (lines (laid plain) t (2 * m - 2)) + (1 + length (sums_in 0 (sum (2 * m - 2) (at t.rbns)) (sum (2 * m - 2) (at t.ibnr))))
plain_size m t = ap length (plain_text m t) ∙ simp length-append (omega arith)
