-- An input cut at 10,096 bytes gets the answer of the whole input: the first line is at most 15
-- bytes, no set is longer than 10,080, and a longer file is refused whatever follows. Assumes
-- nothing.
use Rattle.std.specs.Prelude.{◌≡◌, Bool, true, false, cond, List, [], ◌∷◌, ℕ, zero, suc, ◌+◌, ◌-◌, ◌*◌, ◌≤◌, ◌<◌, leb, take, drop, Option, Some, None}
use Rattle.std.proofs.Math.Path.{refl, sym, ap}
use Rattle.std.proofs.Common.{◌∙◌, zero-add, suc-add, mul-le-mul, get_or-take, leb-true, ne_eqb}
use native.Mathlib.Omega.{arith, not-le}
use Rattle.std.proofs.Math.Decide.{dec_lt}
use Rattle.std.proofs.Math.ListN.{length, length-take}
use Rattle.std.proofs.Math.Seq.{take_all, take-nil}
use Rattle.model.specs.ListsLaws.{and_right}
use Rattle.model.specs.Records.{set_length}
use Rattle.model.specs.Questions.{q1, q2, of_file, first_no}
use Rattle.model.specs.Calendar.{front, run_at, first, second, third, first_line, refusal_text}
use Rattle.model.specs.Calls.{call_refusal, forecast_refusal, file_text, closing_of, closing_text}
use Rattle.model.specs.declared.Run.{Run}
use Rattle.model.specs.declared.Asked.{Asked}
use Rattle.first_line.specs.Runs.{front_take, run_long, found}

drop_take : (a k : ℕ) (s : List ℕ) → drop a (take (a + k) s) ≡ take k (drop a s)
drop_take zero k s = rw (zero-add k)
drop_take (suc a) k [] = rw (suc-add a k) (sym (take-nil k))
drop_take (suc a) k (x ∷ s) = rw (suc-add a k) (drop_take a k s)

-- what follows place a of the first n bytes
after_cut : (n a : ℕ) (s : List ℕ) → a ≤ n → drop a (take n s) ≡ take (n - a) (drop a s)
after_cut n a s h = let e : n ≡ a + (n - a) = omega arith in ap (λ (i : ℕ). drop a (take i s)) e ∙ drop_take a (n - a) s

-- ---- the first line

run_cut : (n : ℕ) (s : List ℕ) (a end : ℕ) → a + 5 ≤ n → run_at (take n s) a end ≡ run_at s a end
unfolding run_at
run_cut n s a end h =
    let d = front (drop a s) in
    let e : front (drop a (take n s)) ≡ take (n - a) d = ap front (after_cut n a s (omega arith)) ∙ front_take (n - a) (drop a s) in
    elim (dec_lt (length d) 5) [
      | yes l ↦
          let w : front (drop a (take n s)) ≡ d = e ∙ take_all (n - a) d (omega arith) in
          rw (w, get_or-take n s (a + length d) 0 (omega arith))
      | no l ↦
          let k = ap length e ∙ length-take (n - a) d in
          sym (run_long (take n s) a end _ refl (omega (arith, not-le (suc (length d)) 5 l))) ∙ run_long s a end _ refl (omega (arith, not-le (suc (length d)) 5 l))
    ]

-- a run's end is at most five bytes on
run_end : (s : List ℕ) (a end : ℕ) (r : Run) → run_at s a end ≡ Some r → r.next ≤ a + 5
run_end s a end r e = let f = found s a end r e in omega (arith, f.few, f.next)

module _ (n : ℕ) (s : List ℕ) (far : 15 ≤ n) where
  third_cut : (m method q : ℕ) → q ≤ 10 → third m method (run_at (take n s) q 10) ≡ third m method (run_at s q 10)
  third_cut m method q h = rw (run_cut n s q 10 (omega arith))

  second_cut : (m : ℕ) (r : Option Run) (p : ℕ) → p ≤ 5 → run_at s p 32 ≡ r → second (take n s) m r ≡ second s m r
  unfolding second
  second_cut m None p h e = refl
  second_cut m (Some r) p h e = third_cut m r.number r.next (omega (arith, run_end s p 32 r e))

  first_cut : (r : Option Run) → run_at s 0 32 ≡ r → first (take n s) r ≡ first s r
  unfolding first
  first_cut None e = refl
  first_cut (Some r) e =
      let h = run_end s 0 32 r e in
      ap (second (take n s) r.number) (run_cut n s r.next 32 (omega arith)) ∙ second_cut r.number (run_at s r.next 32) r.next (omega arith) refl

  pub line_cut : first_line (take n s) ≡ first_line s
  unfolding first_line
  line_cut = ap (first (take n s)) (run_cut n s 0 32 (omega arith)) ∙ first_cut (run_at s 0 32) refl

-- ---- a file that is longer than any set

no_length : (m : ℕ) (f : List ℕ) → q1 m ≡ true → 10080 < length f → q2 m f ≡ false
unfolding q1 q2
no_length m f e h =
    let few : m ≤ 20 = leb-true m 20 (and_right (leb 2 m) (leb m 20) e) in
    let more : m + 1 ≤ 21 = omega arith in
    let b : m * (m + 1) ≤ 420 = mul-le-mul few more in
    rw (ne_eqb (length f) (set_length m false) (λ q. omega arith), ne_eqb (length f) (set_length m true) (λ q. omega arith))

too_long : (m : ℕ) (f : List ℕ) (method basis room : ℕ) (t : Bool) → q1 m ≡ t → 10080 < length f → forecast_refusal m f method basis room ≡ cond t 2 1
unfolding forecast_refusal call_refusal of_file first_no
too_long m f method basis room true e h = rw (e, no_length m f e h)
too_long m f method basis room false e h = rw e

refused_long : (s : List ℕ) (a : Asked) (t : Bool) → q1 a.m ≡ t → 10080 < length (drop a.start s) → closing_of s (Some a) ≡ refusal_text (cond t 2 1)
unfolding closing_of file_text
refused_long s a true e h = rw (too_long a.m (drop a.start s) a.method a.basis 1560 true e h)
refused_long s a false e h = rw (too_long a.m (drop a.start s) a.method a.basis 1560 false e h)

-- ---- the answer: 10,096 bytes are a first line, the longest set and one byte more

module _ (n : ℕ) (s : List ℕ) (far : 10096 ≤ n) where
  file_cut : (a : Asked) → a.start ≤ 15 → closing_of (take n s) (Some a) ≡ closing_of s (Some a)
  unfolding closing_of
  file_cut a h =
      let e = after_cut n a.start s (omega arith) in
      elim (dec_lt (n - a.start) (length (drop a.start s))) [
        | yes l ↦
            let k = ap length e ∙ length-take (n - a.start) (drop a.start s) in
            refused_long (take n s) a (q1 a.m) refl (omega arith) ∙ sym (refused_long s a (q1 a.m) refl (omega arith))
        | no l ↦ rw (e, take_all (n - a.start) (drop a.start s) (omega (arith, not-le (suc (n - a.start)) (length (drop a.start s)) l)))
      ]

  third_same : (m method q : ℕ) (r : Option Run) → q ≤ 10 → run_at s q 10 ≡ r → closing_of (take n s) (third m method r) ≡ closing_of s (third m method r)
  unfolding third closing_of
  third_same m method q None h e = refl
  third_same m method q (Some r) h e = file_cut _ (omega (arith, run_end s q 10 r e))

  second_same : (m p : ℕ) (r : Option Run) → p ≤ 5 → run_at s p 32 ≡ r → closing_of (take n s) (second s m r) ≡ closing_of s (second s m r)
  unfolding second closing_of
  second_same m p None h e = refl
  second_same m p (Some r) h e = third_same m r.number r.next (run_at s r.next 10) (omega (arith, run_end s p 32 r e)) refl

  first_same : (r : Option Run) → run_at s 0 32 ≡ r → closing_of (take n s) (first s r) ≡ closing_of s (first s r)
  unfolding first closing_of
  first_same None e = refl
  first_same (Some r) e = second_same r.number r.next (run_at s r.next 32) (omega (arith, run_end s 0 32 r e)) refl

  pub cut_same : closing_text (take n s) ≡ closing_text s
  unfolding closing_text first_line
  cut_same = ap (closing_of (take n s)) (line_cut n s (omega arith)) ∙ first_same (run_at s 0 32) refl
