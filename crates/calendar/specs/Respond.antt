-- Laws of the answer to a file and of the answer to an input. Assumes nothing.
use Rattle.std.proofs.Math.Path.{◌≡◌, refl, ap}
use Rattle.std.proofs.Common.{sym, ◌∙◌, ap₂, subst, ne_eqb, le-leb, length-drop, take_all}
use Rattle.std.specs.Prelude.{List, Option, Some, None, ℕ, ◌+◌, ◌-◌, ◌≤◌, ◌<◌, take, drop}
use Rattle.std.proofs.Math.Nat.{zero-add}
use native.Mathlib.Omega.{arith}
use Rattle.std.proofs.lemmas.Bool.{lt-leb}
use Rattle.std.proofs.Math.ListN.{length, length-append}
use Rattle.std.proofs.Math.Seq.{take-append_seam}
use Rattle.model.specs.Overlay.{overlay}
use Rattle.model.specs.Calendar.{run_at, first, second, third, first_line, refusal_of, tally_text, refusal_text}
use Rattle.model.specs.Calls.{zeros, forecast_refusal, file_tally, file_text, closing_of, closing_text, respond_answer, respond_output, Responded}
use Rattle.model.specs.declared.Run.{Run}
use Rattle.model.specs.declared.Asked.{Asked}
use Rattle.triangles.specs.Order.{SameRecords}
use Rattle.triangles.specs.Lines.{SameButLine, order_alike}
use Rattle.triangles.specs.CallsLines.{forecast_refusal_alike, output_alike}
use Rattle.first_line.specs.Runs.{run_within}
use Rattle.calendar.specs.Cut.{cut_same}
use Rattle.text.specs.Written.{Written, written_length, written_whole}

pub text_refused : (m : ℕ) (f : List ℕ) (method basis n : ℕ) → (n ≡ 0 → ⊥) → forecast_refusal m f method basis 1560 ≡ n → file_text m f method basis ≡ refusal_text n
unfolding file_text
text_refused m f method basis n o e = rw (e, ne_eqb n 0 o)

pub text_accepted : (m : ℕ) (f : List ℕ) (method basis : ℕ) → forecast_refusal m f method basis 1560 ≡ 0 → file_text m f method basis ≡ tally_text m (file_tally m f method basis)
unfolding file_text
text_accepted m f method basis e = rw e

-- neither the line (02, Job 7) nor the order of the records changes anything
pub text_alike : {m : ℕ} {f g : List ℕ} → SameButLine m f g → (method basis : ℕ) → file_text m f method basis ≡ file_text m g method basis
unfolding file_text file_tally
text_alike alike method basis = rw (forecast_refusal_alike alike method basis 1560, output_alike alike method basis (zeros 1560))

pub text_order : (f g : List ℕ) → SameRecords f g → (m method basis : ℕ) → file_text m f method basis ≡ file_text m g method basis
text_order f g same m = text_alike (order_alike f g same m)

-- ---- parts of a list
pub file_part : (a : ℕ) (s : List ℕ) → take (length s - a) (drop a s) ≡ drop a s
file_part a s = take_all (length s - a) (drop a s) (omega (arith, length-drop a s))

module _ (before t : List ℕ) where
  written_front : take (length t) (overlay before 0 t) ≡ t
  unfolding overlay
  written_front = take-append_seam t (drop (0 + length t) before)

  pub written_room : length t ≤ length (overlay before 0 t)
  unfolding overlay
  written_room = omega (arith, length-append t (drop (0 + length t) before))

-- ---- the first line

some_same : {A : Type 0} {x y : A} → ◌≡◌ {A = Option A} (Some x) (Some y) → x ≡ y
some_same e = cc

module _ (s : List ℕ) where
  -- the file starts inside the input
  by_third : (m method : ℕ) (r : Option Run) (q : ℕ) (a : Asked) → run_at s q 10 ≡ r → third m method r ≡ Some a → a.start ≤ length s
  unfolding third
  by_third m method None q a e h = absurd (let z : ◌≡◌ {A = ℕ} 0 1 = cc in omega arith)
  by_third m method (Some r) q a e h =
      let d : r.next ≡ a.start = ap (λ (x : Asked). x.start) (some_same h) in
      let w = run_within s q 10 r (omega arith) e in
      omega arith

  by_second : (m : ℕ) (r : Option Run) (a : Asked) → second s m r ≡ Some a → a.start ≤ length s
  unfolding second
  by_second m None a h = absurd (let z : ◌≡◌ {A = ℕ} 0 1 = cc in omega arith)
  by_second m (Some r) a h = by_third m r.number (run_at s r.next 10) r.next a refl h

  by_first : (r : Option Run) (a : Asked) → first s r ≡ Some a → a.start ≤ length s
  unfolding first
  by_first None a h = absurd (let z : ◌≡◌ {A = ℕ} 0 1 = cc in omega arith)
  by_first (Some r) a h = by_second r.number (run_at s r.next 32) a h

  pub file_inside : (a : Asked) → first_line s ≡ Some a → a.start ≤ length s
  unfolding first_line
  file_inside a h = by_first (run_at s 0 32) a h

  -- the answer in each case
  pub asked_text : (a : Asked) → first_line s ≡ Some a → closing_text s ≡ file_text a.m (drop a.start s) a.method a.basis
  unfolding closing_text closing_of
  asked_text a e = ap (closing_of s) e

  pub wrong_text : first_line s ≡ None → closing_text s ≡ refusal_text 1
  unfolding closing_text closing_of refusal_of
  wrong_text e = ap (closing_of s) e

  -- inputs that ask the same of files that differ in the line at most, or in the order of records
  pub respond_alike : (t : List ℕ) {m method basis a b : ℕ} → first_line s ≡ Some (record { m = m; method = method; basis = basis; start = a }) → first_line t ≡ Some (record { m = m; method = method; basis = basis; start = b })
      → SameButLine m (drop a s) (drop b t)
      → (before : List ℕ) → (respond_answer s before ≡ respond_answer t before) × (respond_output s before ≡ respond_output t before)
  unfolding respond_answer respond_output closing_text closing_of
  respond_alike t {m} {method} {basis} e h alike before = rw (e, h, text_alike alike method basis) (refl, refl)

  -- the output is long enough for the text, or it is not
  module _ (before : List ℕ) where
    pub long_enough : length (closing_text s) ≤ length before
        → (respond_answer s before ≡ length (closing_text s)) × (respond_output s before ≡ overlay before 0 (closing_text s))
    unfolding respond_answer respond_output overlay
    long_enough h = (rw (le-leb (length (closing_text s)) (length before) h), rw (le-leb (length (closing_text s)) (length before) h, zero-add))

    pub too_short : length before < length (closing_text s) → (respond_answer s before ≡ 0) × (respond_output s before ≡ before)
    unfolding respond_answer respond_output
    too_short h = (rw (lt-leb (length (closing_text s)) (length before) h), rw (lt-leb (length (closing_text s)) (length before) h))

    -- the text was written, so there is room for it
    pub answered : (after : List ℕ) (r : ℕ) → length after ≡ length before → (after ≡ overlay before 0 (closing_text s)) × (r ≡ length (closing_text s))
        → (r ≡ respond_answer s before) × (after ≡ respond_output s before)
    answered after r e w =
        let l = long_enough (omega (arith, written_room before (closing_text s), ap length w.0)) in
        (w.1 ∙ sym l.0, w.0 ∙ sym l.1)

    -- it goes from the front of a longer list to the front of the output
    pub copied : (filled whole after : List ℕ) (n r : ℕ) → whole ≡ overlay filled 0 (closing_text s) → n ≡ length (closing_text s)
        → Written before 0 (take n whole) after r → (r ≡ respond_answer s before) × (after ≡ respond_output s before)
    copied filled whole after n r w e d =
        let t : take n whole ≡ closing_text s = ap₂ take e w ∙ written_front filled (closing_text s) in
        let z = subst (λ (xs : List ℕ). Written before 0 xs after r) t d in
        answered after r (written_length z) (written_whole z)

-- ---- n bytes that were read into a buffer

module _ (buffer before after : List ℕ) (n r : ℕ) where
  abbrev text : List ℕ
  text = closing_text (take n buffer)

  pub bytes_read : (after ≡ overlay before 0 text) × (r ≡ length text)
      → (length buffer ≤ n → (s : List ℕ) → take (length buffer) s ≡ buffer → text ≡ closing_text s) → Responded buffer n before after r
  unfolding overlay
  bytes_read w f = record { result = w.1; output = rw zero-add at w.0; started = f }

  -- they do not fill it
  pub read_short : n < length buffer → (after ≡ overlay before 0 text) × (r ≡ length text) → Responded buffer n before after r
  read_short h w = bytes_read w (λ l. absurd (omega arith))

  -- they fill it, and it is as long as an input may be cut
  pub read_full : length buffer ≤ n → 10096 ≤ length buffer → (after ≡ overlay before 0 (closing_text buffer)) × (r ≡ length (closing_text buffer)) → Responded buffer n before after r
  read_full h far w =
      let e : take n buffer ≡ buffer = take_all n buffer h in
      bytes_read (rw e w) (λ l s b. ap closing_text (e ∙ sym b) ∙ cut_same (length buffer) s far)

  -- the text lies within the output, at its front
  pub text_within : Responded buffer n before after r → r ≤ length after
  text_within d = omega (arith, ap length d.output, length-append text (drop (length text) before), d.result)

  pub text_front : Responded buffer n before after r → take r after ≡ text
  text_front d = ap₂ take d.result d.output ∙ take-append_seam text (drop (length text) before)
