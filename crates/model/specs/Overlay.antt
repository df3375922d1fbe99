-- A list with another written over it, as memory that is lent and filled from a place on. Assumes
-- nothing.
use Rattle.std.specs.Prelude.{◌≡◌, get_or, set}
use Rattle.std.proofs.Math.Path.{sym, ap}
use Rattle.std.proofs.Common.{◌∙◌, add-zero, add_assoc, length-drop, take-append-drop, drop-cons, length-take-le}
use mathlib.Core.List.{List, [], ◌∷◌, ◌++◌, append_assoc, append-nil}
use Prim.Native.Nat.{ℕ, suc, ◌+◌, ◌<◌, ◌≤◌}
use native.Mathlib.Omega.{arith}
use Rattle.std.proofs.Math.ListN.{length, take, drop, length-append}
use Rattle.std.proofs.lemmas.List.{set_at}
use Rattle.std.proofs.Math.Seq.{take_at, drop-append-add, drop-drop}

-- d, with s from place a on
unfoldable pub overlay : {A : Type 0} → List A → ℕ → List A → List A
overlay d a s = take a d ++ s ++ drop (a + length s) d

module _ {A : Type 0} where
  pub overlay_none : (d : List A) (a : ℕ) → overlay d a [] ≡ d
  unfolding overlay
  overlay_none d a = rw (append-nil, add-zero) (take-append-drop a d)

  length_front : (d : List A) (a : ℕ) (s : List A) → a ≤ length d → length (take a d ++ s) ≡ a + length s
  length_front d a s h = length-append (take a d) s ∙ ap (λ (k : ℕ). k + length s) (length-take-le a d h)

  pub length_overlay : (d : List A) (a : ℕ) (s : List A) → a + length s ≤ length d → length (overlay d a s) ≡ length d
  unfolding overlay
  length_overlay d a s h =
      length-append (take a d ++ s) (drop (a + length s) d) ∙ rw (length_front d a s (omega arith), length-drop) (omega arith)

  -- a second list written behind the first
  pub overlay_more : (d : List A) (a : ℕ) (s t : List A) (n : ℕ) → a ≤ length d → n ≡ a + length s → overlay (overlay d a s) n t ≡ overlay d a (s ++ t)
  unfolding overlay
  overlay_more d a s t n h e =
      let P = take a d ++ s in
      let l : length P ≡ n = length_front d a s h ∙ sym e in
      let front : take n (P ++ drop (a + length s) d) ≡ P = take_at P (drop (a + length s) d) n l in
      let tail : drop (n + length t) (P ++ drop (a + length s) d) ≡ drop (a + length s + length t) d =
      ap (λ (k : ℕ). drop (k + length t) (P ++ drop (a + length s) d)) (sym l) ∙ drop-append-add P (drop (a + length s) d) (length t)
      ∙ drop-drop (length t) (a + length s) d in
      rw (front, tail, append_assoc (take a d) s t, length-append s t, add_assoc)

  -- one element stored behind it
  pub overlay_store : (d : List A) (a : ℕ) (s : List A) (n : ℕ) (v : A) → n ≡ a + length s → n < length d → set (overlay d a s) n v ≡ overlay d a (s ++ v ∷ [])
  unfolding overlay
  overlay_store d a s n v e h =
      let P = take a d ++ s in
      let l : length P ≡ n = length_front d a s (omega arith) ∙ sym e in
      let k : a + length s < length d = omega arith in
      rw (drop-cons d (a + length s) v k)
      (set_at P (get_or d (a + length s) v) (drop (suc (a + length s)) d) v n l
      ∙ rw (← append_assoc (take a d) s (v ∷ []), append_assoc P (v ∷ []), length-append s (v ∷ []), last (length s)))
    where
      last : (n : ℕ) → a + (n + 1) ≡ suc (a + n)
      last n = omega arith
