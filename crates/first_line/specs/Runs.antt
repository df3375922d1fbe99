-- Laws of the runs of digits that make up the first line. Assumes nothing.
use Rattle.std.specs.Prelude.{◌≡◌, refl, Bool, true, false, ◌&&◌, cond, ℕ, zero, suc, ◌+◌, ◌-◌, ◌*◌, ◌^◌, ◌≤◌, ◌<◌, leb, eqb, length, get_or, take, drop, Option, Some, None}
use Rattle.std.proofs.Math.Path.{sym}
use Rattle.std.proofs.Common.{ap, ◌∙◌, pow-suc, add-one, drop_of_length-le, drop-cons, take-add, drop_at, length-take-le, length-drop, take_all}
use mathlib.Core.List.{List, [], ◌∷◌}
use Rattle.std.proofs.Math.Nat.{pow-le-pow_right}
use native.Mathlib.Omega.{arith, not-le}
use Rattle.std.proofs.Math.Decide.{dec_lt}
use Rattle.std.proofs.Math.ListN.{get_or-eq_default}
use Rattle.std.proofs.Math.Seq.{slice, slice-cons, slice_empty}
use borrow.Author.Tests.{le-leb, lt-leb, leb-true, eq-eqb, ne_eqb, eqb-true}
use Rattle.std.specs.Char.{is_ascii_digit}
use Rattle.std.specs.List.{prefix_len}
use Rattle.std.proofs.lemmas.List.{get_or-drop}
use Rattle.model.specs.Tests.{by_test}
use Rattle.model.specs.ListsLaws.{and_left, and_right}
use Rattle.model.specs.Calendar.{front, value_from, run_at, first, second, third, first_line}
use Rattle.model.specs.declared.Run.{Run}

-- ---- the digits that a text starts with

-- b is a decimal digit
abbrev pub is_digit : ℕ → Bool
is_digit b = leb 48 b && leb b 57

pub low_digit : (b : ℕ) → b < 48 → is_digit b ≡ false
low_digit b h = rw (lt-leb 48 b h)

pub high_digit : (b : ℕ) → 57 < b → is_digit b ≡ false
high_digit b h = rw (le-leb 48 b (omega arith), lt-leb b 57 h)

pub in_digit : (b : ℕ) → 48 ≤ b → b ≤ 57 → is_digit b ≡ true
in_digit b h k = rw (le-leb 48 b h, le-leb b 57 k)

pub front_no : (b : ℕ) (s : List ℕ) → is_digit b ≡ false → front (b ∷ s) ≡ []
unfolding front
front_no b s e = rw (e, front)

pub front_yes : (b : ℕ) (s : List ℕ) → is_digit b ≡ true → front (b ∷ s) ≡ b ∷ front s
unfolding front
front_yes b s e = rw (e, front)

-- from place i on: past the end, at another byte, and at a digit
pub front_end : (s : List ℕ) (i : ℕ) → length s ≤ i → length (front (drop i s)) ≡ 0
unfolding front
front_end s i h = rw (drop_of_length-le s h)

pub front_stop : (s : List ℕ) (i : ℕ) → i < length s → is_digit (get_or s i 0) ≡ false → length (front (drop i s)) ≡ 0
front_stop s i h e = rw (drop-cons s i 0 h) (ap length (front_no (get_or s i 0) (drop (suc i) s) e))

pub front_more : (s : List ℕ) (i : ℕ) → i < length s → is_digit (get_or s i 0) ≡ true → length (front (drop i s)) ≡ suc (length (front (drop (i + 1) s)))
front_more s i h e = rw (add-one i, drop-cons s i 0 h) (ap length (front_yes (get_or s i 0) (drop (suc i) s) e))

test_is : (b : ℕ) → is_ascii_digit b ≡ is_digit b
test_is b = refl

-- how many there are, as the bytes that pass std's test
pub front_prefix : (s : List ℕ) → length (front s) ≡ prefix_len is_ascii_digit s
unfolding front
front_prefix [] = refl
front_prefix (b ∷ s) =
    by_test (is_digit b) (λ e. rw (front_yes b s e, test_is b, e, front_prefix s) (omega arith)) (λ e. rw (front_no b s e, test_is b, e))

-- the digits of the first k bytes are the first k digits
pub front_take : (k : ℕ) (s : List ℕ) → front (take k s) ≡ take k (front s)
unfolding front
front_take zero s = refl
front_take (suc k) [] = refl
front_take (suc k) (b ∷ s) =
    by_test (is_digit b) (λ e. rw (front_yes b (take k s) e, front_yes b s e, front_take k s))
    (λ e. rw (front_no b (take k s) e, front_no b s e))

-- the digits are the start of s, as many as there are
front_start : (s : List ℕ) → take (length (front s)) s ≡ front s
unfolding front
front_start [] = refl
front_start (b ∷ s) =
    by_test (is_digit b) (λ e. rw (front_yes b s e) (ap (λ (l : List ℕ). b ∷ l) (front_start s))) (λ e. rw (front_no b s e))

pub slice_is : (s : List ℕ) (a k : ℕ) → a ≤ length s → slice a (a + k) s ≡ take k (drop a s)
slice_is s a k h = ap (λ (l : List ℕ). drop a l) (take-add a k s) ∙ drop_at (take a s) (take k (drop a s)) a (length-take-le a s h)

-- the digits at a place, as the part of s up to their end
front_part : (s : List ℕ) (a : ℕ) → a ≤ length s → slice a (a + length (front (drop a s))) s ≡ front (drop a s)
front_part s a h = slice_is s a (length (front (drop a s))) h ∙ front_start (drop a s)

-- what follows place a
pub after : (a : ℕ) (s : List ℕ) → take (length s - a) (drop a s) ≡ drop a s
after a s = take_all (length s - a) (drop a s) (omega (arith, length-drop a s))

pub after_length : (a : ℕ) (s : List ℕ) → length (take (length s - a) (drop a s)) ≡ length s - a
after_length a s = rw (after a s) (length-drop a s)

pub after_at : (a : ℕ) (s : List ℕ) (n : ℕ) → get_or (take (length s - a) (drop a s)) n 0 ≡ get_or s (a + n) 0
after_at a s n = rw (after a s) (get_or-drop a s n 0)

pub after_end : (s : List ℕ) (a : ℕ) {n : ℕ} → n ≡ length (front (take (length s - a) (drop a s))) → a + n ≡ a + length (front (drop a s))
after_end s a e = ap (λ (n : ℕ). a + n) (rw (after a s) at e)

-- ---- the number that digits say

pub value_next : (v : ℕ) (s : List ℕ) (i e : ℕ) → i < e → e ≤ length s → value_from v (slice i e s) ≡ value_from (v * 10 + (get_or s i 0 - 48)) (slice (i + 1) e s)
unfolding value_from
value_next v s i e h k = rw (add-one i, slice-cons i e s 0 h k)

pub value_end : (v : ℕ) (s : List ℕ) (e : ℕ) → value_from v (slice e e s) ≡ v
unfolding value_from
value_end v s e = rw (slice_empty e s)

pub tens : (i a : ℕ) → a ≤ i → 10 ^ (i + 1 - a) ≡ 10 ^ (i - a) * 10
tens i a h = let e : i + 1 - a ≡ suc (i - a) = omega arith in rw e (pow-suc 10 (i - a))

-- read to the end of the list
pub value_rest : (v : ℕ) (s : List ℕ) (i : ℕ) → i < length s → value_from v (drop i s) ≡ value_from (v * 10 + (get_or s i 0 - 48)) (drop (i + 1) s)
unfolding value_from
value_rest v s i h = rw (add-one i, drop-cons s i 0 h)

pub value_last : (v : ℕ) (s : List ℕ) (i : ℕ) → length s ≤ i → value_from v (drop i s) ≡ v
unfolding value_from
value_last v s i h = rw (drop_of_length-le s h)

pub few_tens : (k : ℕ) → k ≤ 4 → 10 ^ k ≤ 10000
few_tens k h = pow-le-pow_right {n = 10} (omega arith) {i = k} {j = 4} h

-- ---- the cases of a run at place a, by the place e after its digits

module _ (s : List ℕ) (a end e : ℕ) (here : e ≡ a + length (front (drop a s))) where
  abbrev k : ℕ
  k = length (front (drop a s))

  pub run_none : e < a + 1 → None ≡ run_at s a end
  unfolding run_at
  run_none h = sym (rw (lt-leb 1 k (omega arith)))

  pub run_long : a + 4 < e → None ≡ run_at s a end
  unfolding run_at
  run_long h = sym (rw (le-leb 1 k (omega arith), lt-leb k 4 (omega arith)))

  pub run_other : a + 1 ≤ e → e ≤ a + 4 → (get_or s e 0 ≡ end → ⊥) → None ≡ run_at s a end
  unfolding run_at
  run_other h l f = sym (rw (le-leb 1 k (omega arith), le-leb k 4 (omega arith), sym here, ne_eqb (get_or s e 0) end f))

  pub run_past : a + 1 ≤ e → e ≤ a + 4 → length s ≤ e → 0 < end → None ≡ run_at s a end
  run_past h l c z = run_other h l (λ q. let d : get_or s e 0 ≡ 0 = get_or-eq_default s 0 c in omega arith)

  pub run_is : a + 1 ≤ e → e ≤ a + 4 → a ≤ length s → get_or s e 0 ≡ end → Some (record { number = value_from 0 (slice a e s); next = e + 1 }) ≡ run_at s a end
  unfolding run_at
  run_is h l i q =
      sym (rw (le-leb 1 k (omega arith), le-leb k 4 (omega arith), sym here, eq-eqb (get_or s e 0) end q)
      (ap (λ (l : List ℕ). Some (record { number = value_from 0 l; next = e + 1 })) (sym (rw here (front_part s a i)))))

-- ---- a run that was found

pub record Found (s : List ℕ) (a end p : ℕ) : Type 0 where
  pub few : length (front (drop a s)) ≤ 4
  pub ended : get_or s (a + length (front (drop a s))) 0 ≡ end
  pub next : p ≡ a + length (front (drop a s)) + 1

some_is : {q r : Run} → ◌≡◌ {A = Option Run} (Some q) (Some r) → q ≡ r
some_is e = cc

cond_number : (t : Bool) (r : Option Run) (q : Run) → cond t r None ≡ Some q → (t ≡ true) × (r ≡ Some q)
cond_number true r q e = (refl, e)
cond_number false r q e = absurd cc

pub found : (s : List ℕ) (a end : ℕ) (r : Run) → run_at s a end ≡ Some r → Found s a end r.next
unfolding run_at
found s a end r e =
    let k : ℕ = length (front (drop a s)) in
    let c = cond_number (leb 1 k && leb k 4 && eqb (get_or s (a + k) 0) end) _ r e in
    record {
      few = leb-true k 4 (and_right (leb 1 k) (leb k 4) (and_left (leb 1 k && leb k 4) _ c.0));
      ended = eqb-true (get_or s (a + k) 0) end (and_right (leb 1 k && leb k 4) _ c.0);
      next = sym (ap (λ (q : Run). q.next) (some_is c.1));
    }

-- what ends it stands within s
pub run_within : (s : List ℕ) (a end : ℕ) (r : Run) → 0 < end → run_at s a end ≡ Some r → r.next ≤ length s
run_within s a end r z e =
    let f = found s a end r e in
    let i : ℕ = a + length (front (drop a s)) in
    elim (dec_lt i (length s)) [
      | yes h ↦ omega (arith, f.next)
      | no n ↦ absurd (let d : get_or s i 0 ≡ 0 = get_or-eq_default s 0 (omega (arith, not-le (suc i) (length s) n)) in omega (arith, f.ended))
    ]

-- ---- the cases of the first line

module _ (s : List ℕ) where
  pub refused_1 : run_at s 0 32 ≡ None → None ≡ first_line s
  unfolding first_line first
  refused_1 e = sym (rw e)

  module _ (m : Run) (e : run_at s 0 32 ≡ Some m) where
    pub refused_2 : run_at s m.next 32 ≡ None → None ≡ first_line s
    unfolding first_line first second
    refused_2 f = sym (rw (e, f))

    module _ (k : Run) (f : run_at s m.next 32 ≡ Some k) where
      pub refused_3 : run_at s k.next 10 ≡ None → None ≡ first_line s
      unfolding first_line first second third
      refused_3 g = sym (rw (e, f, g))

      pub asked : (b : Run) → run_at s k.next 10 ≡ Some b → Some (record { m = m.number; method = k.number; basis = b.number; start = b.next }) ≡ first_line s
      unfolding first_line first second third
      asked b g = sym (rw (e, f, g))
