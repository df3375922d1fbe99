-- Laws of reading a page and a text. Assumes nothing.
use Rattle.std.specs.Prelude.{◌≡◌, ℕ, zero, suc, ◌+◌, ◌-◌, ◌*◌, eqb, length, take, drop, replicate}
use Rattle.std.proofs.Math.Path.{refl}
use Rattle.std.proofs.Common.{sym, ap, ◌∙◌, add-zero, zero-add, add_assoc, arith, eq-eqb, take_at, drop_at}
use mathlib.Core.List.{List, [], ◌∷◌, ◌++◌, append_assoc}
use Rattle.std.proofs.lemmas.Bool.{not-true}
use Rattle.std.proofs.Math.Seq.{drop-append-add}
use Rattle.model.specs.Page.{aligned}
use Rattle.text.specs.Bytes.{All, none, more, other}
use Rattle.page.specs.PageReads.{field_at, trimmed, until, past, part, line_of}

-- ---- laws of parts

module _ (e : ℕ) where
  pub until_at : {a : List ℕ} → All (other e) a → (r : List ℕ) → until e (a ++ e ∷ r) ≡ a
  unfolding until
  until_at none r = rw (eq-eqb e e refl, until)
  until_at (more {b = b} {s = s} h d) r = rw (not-true (eqb b e) h, until) (ap (λ (l : List ℕ). b ∷ l) (until_at d r))

  pub past_at : {a : List ℕ} → All (other e) a → (r : List ℕ) → past e (a ++ e ∷ r) ≡ r
  unfolding past
  past_at none r = rw (eq-eqb e e refl, past)
  past_at (more {b = b} {s = s} h d) r = rw (not-true (eqb b e) h, past) (past_at d r)

  pub until_end : {a : List ℕ} → All (other e) a → until e a ≡ a
  unfolding until
  until_end none = refl
  until_end (more {b = b} {s = s} h d) = rw (not-true (eqb b e) h, until) (ap (λ (l : List ℕ). b ∷ l) (until_end d))

-- ---- texts of lines

-- s is n lines: in a text that starts with it the lines count on from n
abbrev pub Lines : ℕ → List ℕ → Type 0
Lines n s = (rest : List ℕ) (k : ℕ) → part 10 (s ++ rest) (n + k) ≡ part 10 rest k

-- s is one line: bytes that are no newlines, and a newline
pub record IsLine (s : List ℕ) : Type 0 where
  pub body : List ℕ
  pub is : s ≡ body ++ (10 ∷ [])
  pub free : All (other 10) body

pub no_lines : Lines 0 []
no_lines rest k = rw (zero-add k)

pub one_line : {s : List ℕ} → IsLine s → Lines 1 s
unfolding part
one_line {s} l rest k =
    let a : 1 + k ≡ suc k = omega arith in
    let b : s ++ rest ≡ l.body ++ 10 ∷ rest = ap (λ (x : List ℕ). x ++ rest) l.is ∙ append_assoc l.body (10 ∷ []) rest in
    rw (a, b) (ap (λ (x : List ℕ). part 10 x k) (past_at 10 l.free rest))

pub more_lines : (a b : ℕ) (s t : List ℕ) → Lines a s → Lines b t → Lines (a + b) (s ++ t)
more_lines a b s t f g rest k = rw (append_assoc s t rest, add_assoc a b k) (f (t ++ rest) (b + k) ∙ g rest k)

-- line l of a text is s, below pre
pub record LineAt (text pre : List ℕ) (l : ℕ) (s : List ℕ) : Type 0 where
  pub post : List ℕ
  pub is : text ≡ pre ++ (s ++ post)
  pub above : Lines l pre

pub line_read : {text pre s : List ℕ} {l : ℕ} → LineAt text pre l s → (i : IsLine s) → line_of text l ≡ i.body
unfolding part
line_read {text} {pre} {s} {l} at i =
    let b : s ++ at.post ≡ i.body ++ 10 ∷ at.post = ap (λ (x : List ℕ). x ++ at.post) i.is ∙ append_assoc i.body (10 ∷ []) at.post in
    let z : l + 0 ≡ l = add-zero l in
    ap (λ (x : List ℕ). part 10 x l) at.is ∙ rw z at (at.above (s ++ at.post) 0) ∙ ap (until 10) b ∙ until_at 10 i.free at.post

-- a line above the text
pub line_below : {text pre s h : List ℕ} {l : ℕ} → IsLine h → LineAt text pre l s → LineAt (h ++ text) (h ++ pre) (suc l) s
line_below {text} {pre} {s} {h} {l} i at =
    let e : 1 + l ≡ suc l = omega arith in
    record {
      post = at.post;
      is = ap (λ (x : List ℕ). h ++ x) at.is ∙ sym (append_assoc h pre (s ++ at.post));
      above = rw e at (more_lines 1 l h pre (one_line i) at.above);
    }

-- ---- fields

-- a field of a line whose lines above it have 68 bytes each: the stretch q of the line
pub field_is : {page pre s : List ℕ} {l : ℕ} (here : LineAt page pre l s) → length pre ≡ 68 * l → (p q r : List ℕ) → s ++ here.post ≡ p ++ (q ++ r)
    → {c w : ℕ} → length p ≡ c → length q ≡ w → field_at page l c w ≡ q
unfolding field_at
field_is {page} {pre} {s} {l} here high p q r e {c} {w} d f =
    ap (λ (x : List ℕ). take w (drop (68 * l + c) x)) here.is
    ∙ ap (λ (n : ℕ). take w (drop (n + c) (pre ++ (s ++ here.post)))) (sym high)
    ∙ ap (take w) (drop-append-add pre (s ++ here.post) c ∙ ap (drop c) e ∙ drop_at p (q ++ r) c d)
    ∙ take_at q r w f

-- ---- spaces

pub trimmed_spaces : (n : ℕ) (s : List ℕ) → trimmed (replicate n 32 ++ s) ≡ trimmed s
unfolding trimmed
trimmed_spaces zero s = refl
trimmed_spaces (suc n) s = trimmed_spaces n s

pub trimmed_same : {s : List ℕ} → All (other 32) s → trimmed s ≡ s
unfolding trimmed
trimmed_same none = refl
trimmed_same (more {b = b} {s = s} h d) = rw (not-true (eqb b 32) h, trimmed)

pub trimmed_aligned : (width : ℕ) {s : List ℕ} → All (other 32) s → trimmed (aligned width s) ≡ s
unfolding aligned
trimmed_aligned width {s} d = trimmed_spaces (width - length s) s ∙ trimmed_same d
