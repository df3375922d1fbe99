-- That the page and the text of a tally read as PageReads says. Assumes nothing.
use Rattle.std.specs.Prelude.{◌≡◌, true, false, eqb, ℤ, pos, negsuc, ◌+ℤ◌, length}
use Rattle.std.proofs.Math.Path.{refl, sym, ap}
use Rattle.std.proofs.Common.{◌∙◌, add-one, eqb-true}
use Rattle.std.proofs.lemmas.Bool.{false≢true}
use mathlib.Core.List.{List, [], ◌∷◌, ◌++◌, append_assoc, append-nil}
use Prim.Native.Nat.{ℕ, zero, suc, ◌-◌, ◌*◌, ◌≤◌, ◌<◌}
use Rattle.std.proofs.Math.Decide.{dec_lt, le_ind}
use native.Mathlib.Omega.{arith, not-le}
use Rattle.std.proofs.Math.ListN.{length-append}
use Rattle.integers.specs.Sums.{sum}
use Rattle.model.specs.Lists.{at}
use Rattle.model.specs.Tests.{by_test}
use Rattle.model.specs.Calendar.{digits, amount, value_from, line, lines, all_lines, tally_text}
use Rattle.model.specs.Page.{aligned, columns, heading, page_line, page_text}
use Rattle.model.specs.Examples.{printed}
use Rattle.model.specs.PageExamples.{printed_heading, page_k}
use Rattle.year_tally.specs.declared.Tally.{Tally}
use Rattle.text.specs.Bytes.{All, none, more, other, all_append, all_same, all_pass}
use Rattle.first_line.specs.Runs.{is_digit}
use Rattle.first_line.specs.ReadBack.{digits_are}
use Rattle.text.specs.Digits.{value_digits}
use Rattle.text.specs.Amount.{amount_value, amount_back}
use Rattle.tally.specs.Printable.{Printable}
use Rattle.page_text.specs.PageLaws.{LineFits, narrow, aligned_length, page_line_length, page_lines_length, year_width, year_amounts, total_amounts, page_length}
use Rattle.page.specs.PageReads.{field_at, trimmed, line_of, word, part, until, past, SameAmount, SameLine, PageReads}
use Rattle.page.specs.ReadingLaws.{until_at, past_at, until_end, Lines, IsLine, no_lines, one_line, more_lines, LineAt, line_read, line_below, field_is, trimmed_aligned}

-- set K's text and page (model, Examples and PageExamples): word 2 of line 1 is 69, and the RBNS of
-- line 1 is 337
pub reading_example : (word printed 1 2 ≡ 54 ∷ 57 ∷ []) × (trimmed (field_at page_k 1 4 21) ≡ 51 ∷ 51 ∷ 55 ∷ [])
unfolding part until past field_at trimmed printed page_k printed_heading
reading_example = (refl, refl)

-- ---- bytes that digits and amounts do not have

module _ (e : ℕ) (o : is_digit e ≡ false) where
  no_digit : (b : ℕ) → is_digit b ≡ true → other e b ≡ true
  no_digit b h = by_test (eqb b e) (λ q. absurd (false≢true (sym o ∙ ap is_digit (sym (eqb-true b e q)) ∙ h))) (λ q. rw q)

  digits_free : (n : ℕ) → All (other e) (digits n)
  digits_free n = all_pass no_digit (digits_are n)

  amount_free : other e 45 ≡ true → (z : ℤ) → All (other e) (amount z)
  unfolding amount
  amount_free m (pos n) = digits_free n
  amount_free m (negsuc n) = more m (digits_free (suc n))

-- ---- a line of the text

module _ (name : List ℕ) (x y : ℤ) where
  abbrev words : List ℕ
  words = name ++ 32 ∷ (amount x ++ 32 ∷ (amount y ++ 32 ∷ amount (x +ℤ y)))

  text_line : All (other 10) name → IsLine (line name x y)
  unfolding line
  text_line free =
      record {
        body = words;
        is = simp append_assoc;
        free = all_append free (more refl (all_append (amount_free 10 refl refl x) (more refl (all_append (amount_free 10 refl refl y) (more refl (amount_free 10 refl refl (x +ℤ y)))))));
      }

  module _ (free : All (other 32) name) where
    free_x : All (other 32) (amount x)
    free_x = amount_free 32 refl refl x

    free_y : All (other 32) (amount y)
    free_y = amount_free 32 refl refl y

    first_word : part 32 words 0 ≡ name
    unfolding part
    first_word = until_at 32 free _

    rbns_at : part 32 words 1 ≡ amount x
    unfolding part
    rbns_at = ap (until 32) (past_at 32 free _) ∙ until_at 32 free_x _

    ibnr_at : part 32 words 2 ≡ amount y
    unfolding part
    ibnr_at = ap (λ (s : List ℕ). until 32 (past 32 s)) (past_at 32 free _) ∙ ap (until 32) (past_at 32 free_x _) ∙ until_at 32 free_y _

    total_at : part 32 words 3 ≡ amount (x +ℤ y)
    unfolding part
    total_at =
        ap (λ (s : List ℕ). until 32 (past 32 (past 32 s))) (past_at 32 free _) ∙ ap (λ (s : List ℕ). until 32 (past 32 s)) (past_at 32 free_x _)
        ∙ ap (until 32) (past_at 32 free_y _) ∙ until_end 32 (amount_free 32 refl refl (x +ℤ y))

-- ---- a line of the page

aligned_free : (width : ℕ) {s : List ℕ} → All (other 10) s → All (other 10) (aligned width s)
unfolding aligned
aligned_free width {s} d = all_append (all_same (width - length s) 32 refl) d

module _ (year a b c : List ℕ) where
  columns_line : All (other 10) year → All (other 10) a → All (other 10) b → All (other 10) c → IsLine (columns year a b c)
  unfolding columns
  columns_line d e f g =
      record {
        body = aligned 4 year ++ aligned 21 a ++ aligned 21 b ++ aligned 21 c;
        is = refl;
        free = all_append (all_append (all_append (aligned_free 4 d) (aligned_free 21 e)) (aligned_free 21 f)) (aligned_free 21 g);
      }

  module _ {page pre : List ℕ} {l : ℕ} (here : LineAt page pre l (columns year a b c)) (high : length pre ≡ 68 * l) (ly : length year ≤ 4) where
    abbrev post : List ℕ
    post = here.post

    y_long : length (aligned 4 year) ≡ 4
    y_long = aligned_length 4 year ly

    year_field : field_at page l 0 4 ≡ aligned 4 year
    unfolding columns
    year_field = field_is here high [] (aligned 4 year) (aligned 21 a ++ aligned 21 b ++ aligned 21 c ++ (10 ∷ []) ++ post) (simp append_assoc) refl y_long

    module _ (la : length a ≤ 21) where
      a_long : length (aligned 21 a) ≡ 21
      a_long = aligned_length 21 a la

      first_field : field_at page l 4 21 ≡ aligned 21 a
      unfolding columns
      first_field = field_is here high (aligned 4 year) (aligned 21 a) (aligned 21 b ++ aligned 21 c ++ (10 ∷ []) ++ post) (simp append_assoc) y_long a_long

      module _ (lb : length b ≤ 21) where
        b_long : length (aligned 21 b) ≡ 21
        b_long = aligned_length 21 b lb

        second_field : field_at page l 25 21 ≡ aligned 21 b
        unfolding columns
        second_field =
            field_is here high (aligned 4 year ++ aligned 21 a) (aligned 21 b) (aligned 21 c ++ (10 ∷ []) ++ post) (simp append_assoc)
            (simp length-append (omega (arith, y_long, a_long))) b_long

        third_field : length c ≤ 21 → field_at page l 46 21 ≡ aligned 21 c
        unfolding columns
        third_field lc =
            field_is here high (aligned 4 year ++ aligned 21 a ++ aligned 21 b) (aligned 21 c) ((10 ∷ []) ++ post) (simp append_assoc)
            (simp length-append (omega (arith, y_long, a_long, b_long))) (aligned_length 21 c lc)

-- ---- line k + 1 of the page and line k of the text

-- a name that neither parts words nor ends lines
pub record Name (s : List ℕ) : Type 0 where
  pub short : length s ≤ 4
  pub no_space : All (other 32) s
  pub no_newline : All (other 10) s

same_amount : {page text : List ℕ} {k column n : ℕ} {z : ℤ} → field_at page (suc k) column 21 ≡ aligned 21 (amount z) → word text k n ≡ amount z → length (amount z) ≤ 21 → SameAmount page text k column n z
same_amount {z = z} f w h =
    let t = ap trimmed f ∙ trimmed_aligned 21 (amount_free 32 refl refl z) in
    record { right = f ∙ ap (aligned 21) (sym w); same = t ∙ sym w; reads = ap amount_value t ∙ amount_back z; narrow = rw w h }

module _ {page text above below : List ℕ} {k : ℕ} {x y : ℤ} {mine theirs : List ℕ} (a : Name mine) (b : Name theirs) (fit : LineFits x y)
    (here : LineAt page above (suc k) (page_line mine x y)) (high : length above ≡ 68 * suc k) (there : LineAt text below k (line theirs x y)) where
  nx : length (amount x) ≤ 21
  nx = narrow x fit.first

  ny : length (amount y) ≤ 21
  ny = narrow y fit.second

  nz : length (amount (x +ℤ y)) ≤ 21
  nz = narrow (x +ℤ y) fit.both

  in_columns : LineAt page above (suc k) (columns mine (amount x) (amount y) (amount (x +ℤ y)))
  unfolding page_line
  in_columns = here

  line_is_lem : line_of text k ≡ words theirs x y
  unfolding text_line
  line_is_lem = line_read there (text_line theirs x y b.no_newline)

  name_field : field_at page (suc k) 0 4 ≡ aligned 4 mine
  name_field = year_field mine (amount x) (amount y) (amount (x +ℤ y)) in_columns high a.short

  name_word : word text k 0 ≡ theirs
  name_word = ap (λ (s : List ℕ). part 32 s 0) line_is_lem ∙ first_word theirs x y b.no_space

  same_line : SameLine page text k x y
  same_line =
      record {
        rbns = same_amount (first_field mine (amount x) (amount y) (amount (x +ℤ y)) in_columns high a.short nx) (ap (λ (s : List ℕ). part 32 s 1) line_is_lem ∙ rbns_at theirs x y b.no_space) nx;
        ibnr = same_amount (second_field mine (amount x) (amount y) (amount (x +ℤ y)) in_columns high a.short nx ny) (ap (λ (s : List ℕ). part 32 s 2) line_is_lem ∙ ibnr_at theirs x y b.no_space) ny;
        total = same_amount (third_field mine (amount x) (amount y) (amount (x +ℤ y)) in_columns high a.short nx ny nz) (ap (λ (s : List ℕ). part 32 s 3) line_is_lem ∙ total_at theirs x y b.no_space) nz;
      }

-- ---- the lines of a tally in any layout

module _ (layout : List ℕ → ℤ → ℤ → List ℕ) (t : Tally) where
  abbrev year : ℕ → List ℕ
  year k = layout (digits (suc k)) (at t.rbns k) (at t.ibnr k)

  -- the first n lines have year k's below the first k
  record Has (k n : ℕ) : Type 0 where
    rest : List ℕ
    is : lines layout t n ≡ lines layout t k ++ (year k ++ rest)

  has : (k n : ℕ) → k < n → Has k n
  unfolding lines
  has k n h =
      le_ind (Has k) (record { rest = []; is = ap (λ (s : List ℕ). lines layout t k ++ s) (sym (append-nil (year k))) })
      (λ i l b. record { rest = b.rest ++ year i; is = rw b.is (simp append_assoc) }) n h

  lines_are : (n : ℕ) → ((k : ℕ) → k < n → IsLine (year k)) → Lines n (lines layout t n)
  unfolding lines
  lines_are zero each = no_lines
  lines_are (suc n) each = rw (add-one n) at (more_lines n 1 (lines layout t n) (year n) (lines_are n (λ k h. each k (omega arith))) (one_line (each n (omega arith))))

  module _ (all : List ℕ) (m : ℕ) (each : (k : ℕ) → k < 2 * m - 2 → IsLine (year k)) where
    year_at_lem : (k : ℕ) → k < 2 * m - 2 → LineAt (all_lines layout all m t) (lines layout t k) k (year k)
    unfolding all_lines
    year_at_lem k h =
        let b = has k (2 * m - 2) h in
        record {
          post = b.rest ++ layout all (sum (2 * m - 2) (at t.rbns)) (sum (2 * m - 2) (at t.ibnr));
          is = rw b.is (simp append_assoc);
          above = lines_are k (λ i l. each i (omega arith));
        }

    all_at : LineAt (all_lines layout all m t) (lines layout t (2 * m - 2)) (2 * m - 2) (layout all (sum (2 * m - 2) (at t.rbns)) (sum (2 * m - 2) (at t.ibnr)))
    unfolding all_lines
    all_at =
        record {
          post = [];
          is = ap (λ (s : List ℕ). lines layout t (2 * m - 2) ++ s) (sym (append-nil _));
          above = lines_are (2 * m - 2) each;
        }

-- ---- the page of a tally

-- the words of the first and the last line
abbrev YEAR : List ℕ
YEAR = 89 ∷ 69 ∷ 65 ∷ 82 ∷ []

abbrev RBNS : List ℕ
RBNS = 82 ∷ 66 ∷ 78 ∷ 83 ∷ []

abbrev IBNR : List ℕ
IBNR = 73 ∷ 66 ∷ 78 ∷ 82 ∷ []

abbrev TOTAL : List ℕ
TOTAL = 84 ∷ 79 ∷ 84 ∷ 65 ∷ 76 ∷ []

abbrev ALL : List ℕ
ALL = 65 ∷ 76 ∷ 76 ∷ []

abbrev T : List ℕ
T = 84 ∷ []

-- a line of the page with its 68 bytes
record Whole (page : List ℕ) (l : ℕ) : Type 0 where
  pre : List ℕ
  s : List ℕ
  here : LineAt page pre l s
  high : length pre ≡ 68 * l
  ended : IsLine s
  long : length s ≡ 68

whole_line : {page : List ℕ} {l : ℕ} → Whole page l → (length (line_of page l) ≡ 67) × (field_at page l 0 68 ≡ line_of page l ++ (10 ∷ []))
whole_line {page} {l} w =
    let i = w.ended in
    let e : line_of page l ≡ i.body = line_read w.here i in
    let n : length (i.body ++ (10 ∷ [])) ≡ 68 = ap length (sym i.is) ∙ w.long in (
      ap length e ∙ omega (arith, n, length-append i.body (10 ∷ [])),
      field_is w.here w.high [] w.s w.here.post refl refl w.long ∙ i.is ∙ ap (λ (s : List ℕ). s ++ (10 ∷ [])) (sym e),
    )

module _ (m : ℕ) (t : Tally) (least : 2 ≤ m) (few : m ≤ 20) (p : Printable m t) where
  abbrev page : List ℕ
  page = page_text m t

  abbrev text : List ℕ
  text = tally_text m t

  year_name : (k : ℕ) → k < 2 * m - 2 → Name (digits (suc k))
  year_name k h = record { short = year_width (suc k) (omega arith); no_space = digits_free 32 refl (suc k); no_newline = digits_free 10 refl (suc k) }

  all_name : Name ALL
  all_name = record { short = omega arith; no_space = more refl (more refl (more refl none)); no_newline = more refl (more refl (more refl none)) }

  t_name : Name T
  t_name = record { short = omega arith; no_space = more refl none; no_newline = more refl none }

  -- each line ends with its newline
  heading_line : IsLine heading
  unfolding heading
  heading_line =
      columns_line YEAR RBNS IBNR TOTAL (more refl (more refl (more refl (more refl none)))) (more refl (more refl (more refl (more refl none))))
      (more refl (more refl (more refl (more refl none)))) (more refl (more refl (more refl (more refl (more refl none)))))

  page_line_lem : {name : List ℕ} → Name name → (x y : ℤ) → IsLine (page_line name x y)
  unfolding page_line
  page_line_lem a x y = columns_line _ _ _ _ a.no_newline (amount_free 10 refl refl x) (amount_free 10 refl refl y) (amount_free 10 refl refl (x +ℤ y))

  -- where the lines stand
  above_length : (k : ℕ) → k ≤ 2 * m - 2 → length (heading ++ lines page_line t k) ≡ 68 * suc k
  unfolding heading columns aligned
  above_length k h = length-append heading (lines page_line t k) ∙ omega (arith, page_lines_length t k (omega arith) (λ i l. year_amounts m t least few p i (omega arith)))

  head_at : LineAt page [] 0 heading
  unfolding page_text
  head_at = record { post = all_lines page_line ALL m t; is = refl; above = no_lines }

  page_year_at : (k : ℕ) → k < 2 * m - 2 → LineAt page (heading ++ lines page_line t k) (suc k) (page_line (digits (suc k)) (at t.rbns k) (at t.ibnr k))
  unfolding page_text
  page_year_at k h = line_below heading_line (year_at_lem page_line t ALL m (λ i l. page_line_lem (year_name i l) (at t.rbns i) (at t.ibnr i)) k h)

  page_all_at : LineAt page (heading ++ lines page_line t (2 * m - 2)) (suc (2 * m - 2)) (page_line ALL (sum (2 * m - 2) (at t.rbns)) (sum (2 * m - 2) (at t.ibnr)))
  unfolding page_text
  page_all_at = line_below heading_line (all_at page_line t ALL m (λ i l. page_line_lem (year_name i l) (at t.rbns i) (at t.ibnr i)))

  text_years : (k : ℕ) → k < 2 * m - 2 → IsLine (line (digits (suc k)) (at t.rbns k) (at t.ibnr k))
  text_years k h = text_line (digits (suc k)) (at t.rbns k) (at t.ibnr k) (digits_free 10 refl (suc k))

  text_year_at : (k : ℕ) → k < 2 * m - 2 → LineAt text (lines line t k) k (line (digits (suc k)) (at t.rbns k) (at t.ibnr k))
  unfolding tally_text
  text_year_at = year_at_lem line t T m text_years

  text_all_at : LineAt text (lines line t (2 * m - 2)) (2 * m - 2) (line T (sum (2 * m - 2) (at t.rbns)) (sum (2 * m - 2) (at t.ibnr)))
  unfolding tally_text
  text_all_at = all_at line t T m text_years

  each_whole : (l : ℕ) → l < 2 * m → Whole page l
  unfolding heading columns aligned
  each_whole zero h = record { pre = []; s = heading; here = head_at; high = refl; ended = heading_line; long = refl }
  each_whole (suc k) h =
      elim (dec_lt k (2 * m - 2)) [
        | yes u ↦
            let a = year_name k u in
            record { pre = _; s = _; here = page_year_at k u; high = above_length k (omega arith); ended = page_line_lem a _ _; long = page_line_length _ a.short (year_amounts m t least few p k u) }
        | no u ↦
            let e : k ≡ 2 * m - 2 = omega (arith, not-le (suc k) (2 * m - 2) u) in
            rw e
            (record { pre = _; s = _; here = page_all_at; high = above_length (2 * m - 2) (omega arith); ended = page_line_lem all_name _ _; long = page_line_length _ all_name.short (total_amounts m t least few p) })
      ]

  pub tally_reads : PageReads m t page text
  unfolding heading aligned
  tally_reads =
      let last : 2 * m - 1 ≡ suc (2 * m - 2) = omega arith in
      record {
        bytes = page_length m t least few p;
        line_bytes = λ l h. whole_line (each_whole l h);
        year_word = year_field YEAR RBNS IBNR TOTAL head_at refl (omega arith);
        rbns_word = first_field YEAR RBNS IBNR TOTAL head_at refl (omega arith) (omega arith);
        ibnr_word = second_field YEAR RBNS IBNR TOTAL head_at refl (omega arith) (omega arith) (omega arith);
        total_word = third_field YEAR RBNS IBNR TOTAL head_at refl (omega arith) (omega arith) (omega arith) (omega arith);
        years = λ k h.
            let a = year_name k h in
            let f = name_field a a (year_amounts m t least few p k h) (page_year_at k h) (above_length k (omega arith)) (text_year_at k h) in
            let w = name_word a a (year_amounts m t least few p k h) (page_year_at k h) (above_length k (omega arith)) (text_year_at k h) in
            let s = ap trimmed f ∙ trimmed_aligned 4 a.no_space in
            record { right = f ∙ ap (aligned 4) (sym w); same = s ∙ sym w; reads = ap (value_from 0) s ∙ value_digits (suc k) };
        year_amounts = λ k h.
            let a = year_name k h in
            same_line a a (year_amounts m t least few p k h) (page_year_at k h) (above_length k (omega arith)) (text_year_at k h);
        all = rw last (name_field all_name t_name (total_amounts m t least few p) page_all_at (above_length (2 * m - 2) (omega arith)) text_all_at);
        all_of = name_word all_name t_name (total_amounts m t least few p) page_all_at (above_length (2 * m - 2) (omega arith)) text_all_at;
        all_amounts = same_line all_name t_name (total_amounts m t least few p) page_all_at (above_length (2 * m - 2) (omega arith)) text_all_at;
      }
