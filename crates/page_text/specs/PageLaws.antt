-- Laws of the closing page: its parts in the order in which they are written, and its length.
-- Assumes nothing.
use Rattle.std.specs.Prelude.{◌≡◌, true, List, [], ◌∷◌, ◌++◌, ℕ, zero, suc, ◌+◌, ◌-◌, ◌*◌, ◌≤◌, ◌<◌, ℤ, ◌+ℤ◌, length, replicate}
use Rattle.std.proofs.Common.{sym, ◌∙◌, append_assoc, add-one}
use Rattle.std.proofs.Math.Path.{ap}
use native.Mathlib.Omega.{arith}
use Rattle.std.proofs.Math.ListN.{length-append}
use Rattle.std.proofs.lemmas.List.{length-replicate}
use Rattle.integers.specs.Sums.{sum}
use Rattle.model.specs.Lists.{at}
use Rattle.model.specs.Calendar.{digits, amount, lines, all_lines}
use Rattle.year_tally.specs.TallyAdd.{fits64}
use Rattle.model.specs.Page.{aligned, columns, heading, page_line, page_text}
use Rattle.year_tally.specs.declared.Tally.{Tally}
use Rattle.text.specs.Digits.{digits_length}
use Rattle.text.specs.Amount.{amount_length}
use Rattle.tally.specs.Printable.{Printable}
use Rattle.tally_text.specs.declared.Layout.{Layout}
use Rattle.tally_text.specs.TallyTextLaws.{field_in, sums_in, laid, lines_none, lines_next, lines_same}

-- what stands behind a line's name
unfoldable pub amounts : ℤ → ℤ → List ℕ
amounts x y = aligned 21 (amount x) ++ aligned 21 (amount y) ++ aligned 21 (amount (x +ℤ y)) ++ (10 ∷ [])

-- ---- the parts

pub page_line_is : (name : List ℕ) (x y : ℤ) → page_line name x y ≡ aligned 4 name ++ amounts x y
unfolding page_line columns amounts
page_line_is name x y = simp append_assoc

pub page_next : (t : Tally) (k : ℕ) → lines page_line t (k + 1) ≡ lines page_line t k ++ (aligned 4 (digits (k + 1)) ++ amounts (at t.rbns k) (at t.ibnr k))
page_next t k = lines_next page_line t k ∙ rw (page_line_is (digits (k + 1)) (at t.rbns k) (at t.ibnr k))

-- the last line
abbrev pub totals : ℕ → Tally → List ℕ
totals n t = (32 ∷ 65 ∷ 76 ∷ 76 ∷ []) ++ amounts (sum n (at t.rbns)) (sum n (at t.ibnr))

pub page_is : (m : ℕ) (t : Tally) → page_text m t ≡ heading ++ (lines page_line t (2 * m - 2) ++ totals (2 * m - 2) t)
unfolding page_text all_lines aligned
page_is m t = rw (page_line_is (65 ∷ 76 ∷ 76 ∷ []) (sum (2 * m - 2) (at t.rbns)) (sum (2 * m - 2) (at t.ibnr)))

-- ---- their lengths: a line has 68 bytes

pub aligned_length : (width : ℕ) (s : List ℕ) → length s ≤ width → length (aligned width s) ≡ width
unfolding aligned
aligned_length width s h = length-append (replicate (width - length s) 32) s ∙ rw (length-replicate {A = ℕ} (width - length s) 32) (omega arith)

-- three amounts that fit 64 bits
pub record LineFits (x y : ℤ) : Type 0 where
  pub first : fits64 x ≡ true
  pub second : fits64 y ≡ true
  pub both : fits64 (x +ℤ y) ≡ true

-- no signed 64-bit number is wider than a column
pub narrow : (z : ℤ) → fits64 z ≡ true → length (amount z) ≤ 21
narrow z e = omega (arith, amount_length z e)

pub amounts_length : {x y : ℤ} → LineFits x y → length (amounts x y) ≡ 64
unfolding amounts
amounts_length {x} {y} a =
    simp length-append
    (omega (arith, aligned_length 21 (amount x) (narrow x a.first), aligned_length 21 (amount y) (narrow y a.second), aligned_length 21 (amount (x +ℤ y)) (narrow (x +ℤ y) a.both)))

pub page_line_length : (name : List ℕ) {x y : ℤ} → length name ≤ 4 → LineFits x y → length (page_line name x y) ≡ 68
page_line_length name {x} {y} h a =
    ap length (page_line_is name x y) ∙ length-append (aligned 4 name) (amounts x y) ∙ omega (arith, aligned_length 4 name h, amounts_length a)

pub year_width : (year : ℕ) → year ≤ 38 → length (digits year) ≤ 4
year_width year h = omega (arith, digits_length 1 year (omega arith))

pub page_lines_length : (t : Tally) (n : ℕ) → n ≤ 38 → ((k : ℕ) → k < n → LineFits (at t.rbns k) (at t.ibnr k)) → length (lines page_line t n) ≡ 68 * n
page_lines_length t zero h fit = rw (lines_none page_line t) (omega arith)
page_lines_length t (suc n) h fit =
    rw (sym (add-one n))
    (ap length (lines_next page_line t n) ∙ length-append (lines page_line t n) (page_line (digits (n + 1)) (at t.rbns n) (at t.ibnr n))
    ∙ omega (
      arith,
      page_lines_length t n (omega arith) (λ k l. fit k (omega arith)),
      page_line_length (digits (n + 1)) (year_width (n + 1) (omega arith)) (fit n (omega arith)),
    ))

-- ---- as the lines are laid out: a column is a space and 20 bytes

abbrev pub page_layout : Layout
page_layout = record { year = 4; amount = 20 }

column_is : (z : ℤ) → fits64 z ≡ true → aligned 21 (amount z) ≡ field_in 20 z
unfolding aligned field_in
column_is z f =
    let n = length (amount z) in
    let e : 21 - n ≡ suc (20 - n) = omega (arith, amount_length z f) in
    rw e

pub amounts_laid : {x y : ℤ} → LineFits x y → amounts x y ≡ sums_in 20 x y
unfolding amounts sums_in
amounts_laid {x} {y} a = rw (column_is x a.first, column_is y a.second, column_is (x +ℤ y) a.both)

pub page_lines_laid : (t : Tally) (n : ℕ) → ((k : ℕ) → k < n → LineFits (at t.rbns k) (at t.ibnr k)) → lines page_line t n ≡ lines (laid page_layout) t n
unfolding laid
page_lines_laid t n fit =
    lines_same page_line (laid page_layout) t n
    (λ k l. page_line_is (digits (k + 1)) (at t.rbns k) (at t.ibnr k) ∙ rw (amounts_laid (fit k l)))

-- ---- of a tally whose numbers fit

module _ (m : ℕ) (t : Tally) (least : 2 ≤ m) (few : m ≤ 20) (p : Printable m t) where
  pub year_amounts : (k : ℕ) → k < 2 * m - 2 → LineFits (at t.rbns k) (at t.ibnr k)
  year_amounts k h = record { first = p.first k h; second = p.second k h; both = p.both k h }

  pub total_amounts : LineFits (sum (2 * m - 2) (at t.rbns)) (sum (2 * m - 2) (at t.ibnr))
  total_amounts = record { first = p.first_total (2 * m - 2) (omega arith); second = p.second_total (2 * m - 2) (omega arith); both = p.total }

  pub page_laid : page_text m t ≡ heading ++ (lines (laid page_layout) t (2 * m - 2) ++ ((32 ∷ 65 ∷ 76 ∷ 76 ∷ []) ++ sums_in 20 (sum (2 * m - 2) (at t.rbns)) (sum (2 * m - 2) (at t.ibnr))))
  page_laid = page_is m t ∙ rw (amounts_laid total_amounts, page_lines_laid t (2 * m - 2) year_amounts)

  pub page_length : length (page_text m t) ≡ 136 * m
  unfolding page_text all_lines heading columns aligned
  page_length =
      let n = 2 * m - 2 in
      length-append heading (all_lines page_line (65 ∷ 76 ∷ 76 ∷ []) m t)
      ∙ ap (λ (k : ℕ). 68 + k) (length-append (lines page_line t n) (page_line (65 ∷ 76 ∷ 76 ∷ []) (sum n (at t.rbns)) (sum n (at t.ibnr))))
      ∙ omega (
        arith,
        page_lines_length t n (omega arith) (λ k h. year_amounts k h),
        page_line_length (65 ∷ 76 ∷ 76 ∷ []) (omega arith) total_amounts,
      )
