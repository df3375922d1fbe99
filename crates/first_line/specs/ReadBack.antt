-- A first line of three numbers below 10,000 is read as these numbers. Assumes nothing.
use Rattle.std.specs.Prelude.{◌≡◌, refl, false, List, [], ◌∷◌, ◌++◌, ℕ, ◌+◌, ◌%◌, ◌^◌, ◌≤◌, ◌<◌, length, get_or, drop, Some}
use Rattle.std.proofs.Common.{sym, ap, ◌∙◌, append_assoc, append-nil, arith, length-append, le-leb, eq-eqb}
use Rattle.std.proofs.Math.Seq.{drop-append_seam}
use Rattle.std.proofs.lemmas.List.{get_or_at}
use Rattle.model.specs.Calendar.{digits, front, value_from, run_at, first_line}
use Rattle.text.specs.Bytes.{All, none, more, all_append}
use Rattle.text.specs.Digits.{value_digits, digits_ind, digits_small, digits_large, digits_length, leads}
use Rattle.first_line.specs.Runs.{is_digit, front_yes, front_no, in_digit, asked}

-- every byte is a digit
abbrev pub Digits : List ℕ → Type 0
Digits = All is_digit

front_append : {a : List ℕ} → Digits a → (t : List ℕ) → front (a ++ t) ≡ a ++ front t
front_append none t = refl
front_append (more {b = b} {s = s} e d) t = front_yes b (s ++ t) e ∙ ap (λ (l : List ℕ). b ∷ l) (front_append d t)

pub digits_are : (n : ℕ) → Digits (digits n)
digits_are n =
    digits_ind (λ m. Digits (digits m)) (λ m h. rw (digits_small m h) (more (in_digit (48 + m) (omega arith) (omega arith)) none))
    (λ m h i. rw (digits_large m h) (all_append i (more (in_digit (48 + m % 10) (omega arith) (omega arith)) none))) n

-- a run of one to four digits, wherever it stands, and the byte after it
pub run_reads : (pre a : List ℕ) (end : ℕ) (rest : List ℕ) → Digits a → 0 < length a → length a ≤ 4 → is_digit end ≡ false
    → run_at (pre ++ a ++ end ∷ rest) (length pre) end ≡ Some (record { number = value_from 0 a; next = length pre + length a + 1 })
unfolding run_at
run_reads pre a end rest d h k f =
    let s : List ℕ = pre ++ a ++ end ∷ rest in
    let e : front (drop (length pre) s) ≡ a =
    ap (λ (l : List ℕ). front (drop (length pre) l)) (append_assoc pre a (end ∷ rest)) ∙ ap front (drop-append_seam pre (a ++ end ∷ rest))
    ∙ front_append d (end ∷ rest) ∙ ap (λ (l : List ℕ). a ++ l) (front_no end rest f) ∙ append-nil a in
    let g : get_or s (length pre + length a) 0 ≡ end = get_or_at (pre ++ a) end rest 0 (length pre + length a) (length-append pre a) in
    simp (e, le-leb 1 (length a) h, le-leb (length a) 4 k, eq-eqb (get_or s (length pre + length a) 0) end g)

-- one to four digits
pub record IsRun (a : List ℕ) : Type 0 where
  pub all : Digits a
  pub some : 0 < length a
  pub few : length a ≤ 4

number_run : (n : ℕ) → n < 10 ^ 4 → IsRun (digits n)
number_run n h = record { all = digits_are n; some = (leads n).some; few = digits_length 3 n h }

pub line_reads : (a b c rest : List ℕ) → IsRun a → IsRun b → IsRun c
    → first_line (a ++ (32 ∷ []) ++ b ++ (32 ∷ []) ++ c ++ 10 ∷ rest) ≡ Some (record { m = value_from 0 a; method = value_from 0 b; basis = value_from 0 c; start = length a + length b + length c + 3 })
line_reads a b c rest ra rb rc =
    let s : List ℕ = a ++ (32 ∷ []) ++ b ++ (32 ∷ []) ++ c ++ 10 ∷ rest in
    let two = a ++ (32 ∷ []) in
    let three = a ++ (32 ∷ []) ++ b ++ (32 ∷ []) in
    let s1 : [] ++ a ++ 32 ∷ (b ++ (32 ∷ []) ++ c ++ 10 ∷ rest) ≡ s = simp append_assoc in
    let s2 : two ++ b ++ 32 ∷ (c ++ 10 ∷ rest) ≡ s = simp append_assoc in
    let p2 : length two ≡ 0 + length a + 1 = length-append a (32 ∷ []) ∙ omega arith in
    let p3 : length three ≡ length two + length b + 1 = simp length-append in
    let p4 : length three + length c + 1 ≡ length a + length b + length c + 3 = simp length-append (omega arith) in
    let r1 : run_at s 0 32 ≡ Some (record { number = value_from 0 a; next = length two }) = rw (← s1, p2) (run_reads [] a 32 (b ++ (32 ∷ []) ++ c ++ 10 ∷ rest) ra.all ra.some ra.few refl) in
    let r2 : run_at s (length two) 32 ≡ Some (record { number = value_from 0 b; next = length three }) = rw (← s2, p3) (run_reads two b 32 (c ++ 10 ∷ rest) rb.all rb.some rb.few refl) in
    let r3 : run_at s (length three) 10 ≡ Some (record { number = value_from 0 c; next = length a + length b + length c + 3 }) = rw (← p4) (run_reads three c 10 rest rc.all rc.some rc.few refl) in
    sym (asked s _ r1 _ r2 _ r3)

-- written with no leading zeros
pub numbers_read : (m k n : ℕ) (rest : List ℕ) → m < 10 ^ 4 → k < 10 ^ 4 → n < 10 ^ 4
    → first_line (digits m ++ (32 ∷ []) ++ digits k ++ (32 ∷ []) ++ digits n ++ 10 ∷ rest) ≡ Some (record { m = m; method = k; basis = n; start = length (digits m) + length (digits k) + length (digits n) + 3 })
numbers_read m k n rest hm hk hn =
    line_reads (digits m) (digits k) (digits n) rest (number_run m hm) (number_run k hk) (number_run n hn)
    ∙ simp (value_digits m, value_digits k, value_digits n)
