-- A text written into lent memory from a place on, and the place after it. Assumes nothing.
use Rattle.std.specs.Prelude.{◌≡◌, refl, List, [], ◌∷◌, ◌++◌, ℕ, ◌+◌, ◌≤◌, ◌<◌, length, take, drop, set}
use Rattle.std.proofs.Common.{sym, ap, ◌∙◌, add-zero, zero-add, append_assoc, arith, length-append}
use Rattle.std.proofs.Math.Seq.{drop-drop}
use Rattle.model.specs.Overlay.{overlay, overlay_none, overlay_store, overlay_more, length_overlay}

-- after is before with text from place a on, and next the place after it, within the memory
pub record Written (before : List ℕ) (a : ℕ) (text after : List ℕ) (next : ℕ) : Type 0 where
  pub bytes : after ≡ overlay before a text
  pub end : next ≡ a + length text
  pub room : a + length text ≤ length before

pub written_length : {before text after : List ℕ} {a next : ℕ} → Written before a text after next → length after ≡ length before
written_length {before} {text} {after} {a} w = ap length w.bytes ∙ length_overlay before a text w.room

pub written_none : (before : List ℕ) (a : ℕ) → a ≤ length before → Written before a [] before a
written_none before a h = record { bytes = sym (overlay_none before a); end = sym (add-zero a); room = rw (add-zero a) h }

pub written_byte : (before : List ℕ) (a b : ℕ) → a < length before → Written before a (b ∷ []) (set before a b) (a + 1)
written_byte before a b h =
    record {
      bytes = rw (overlay_none before a) at (overlay_store before a [] a b (sym (add-zero a)) h);
      end = refl;
      room = omega arith;
    }

-- a text in the place of as many bytes
pub written_over : (before text : List ℕ) (a k : ℕ) → k ≡ length text → a + k ≤ length before
    → Written before a text (take a before ++ (text ++ drop k (drop a before))) (a + k)
unfolding overlay
written_over before text a k e h =
    record { bytes = rw (drop-drop k a before, e) (sym (append_assoc (take a before) text (drop (a + length text) before))); end = rw e; room = omega arith }

-- a text behind a text
pub written_then : {before s middle t after : List ℕ} {a p q : ℕ} → Written before a s middle p → Written middle p t after q → Written before a (s ++ t) after q
written_then {before} {s} {middle} {t} {after} {a} {p} {q} v w =
    let l = written_length v in
    let n = length-append s t in
    record {
      bytes = w.bytes ∙ ap (λ (x : List ℕ). overlay x p t) v.bytes ∙ overlay_more before a s t p (omega (arith, v.room)) v.end;
      end = omega (arith, v.end, w.end);
      room = omega (arith, v.end, w.room);
    }

-- byte by byte, after k bytes: none, and one more
pub written_start : (before : List ℕ) (a : ℕ) → a ≤ length before → Written before a [] before (a + 0)
written_start before a h = rw (add-zero a) (written_none before a h)

pub written_next : {before s middle : List ℕ} {a : ℕ} (k b : ℕ) → Written before a s middle (a + k) → a + k < length before
    → Written before a (s ++ (b ∷ [])) (set middle (a + k) b) (a + (k + 1))
written_next {before} {s} {middle} {a} k b w h =
    let e : a + (k + 1) ≡ a + k + 1 = omega arith in
    rw e (written_then w (written_byte middle (a + k) b (omega (arith, written_length w))))

-- from the start of the memory
pub written_whole : {before text after : List ℕ} {next : ℕ} → Written before 0 text after next → (after ≡ overlay before 0 text) × (next ≡ length text)
written_whole {text = text} w = (w.bytes, w.end ∙ zero-add (length text))
