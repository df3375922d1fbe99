-- 02, Job 7: files that the reader answers alike but for the line of cover. The questions of a call
-- are then answered alike, and its answers differ in the line at most. Assumes nothing.
use Rattle.std.specs.Prelude.{◌≡◌, Bool, List, ℕ, eqb}
use Rattle.std.proofs.Math.Path.{sym}
use Rattle.std.proofs.Common.{◌∙◌, ap, eqb-true}
use Rattle.std.proofs.lemmas.Bool.{eqb-false}
use Rattle.model.specs.Records.{has_incurred, set_of}
use Rattle.model.specs.Questions.{Question}
use Rattle.model.specs.Calls.{if_accepted, call_refusal, read_refusal}
use Rattle.model.specs.CallsLaws.{by_file, after_file}
use Rattle.model.specs.Tests.{by_test}
use Rattle.model.specs.declared.TriangleSet.{TriangleSet}
use Rattle.triangles.specs.Order.{SameRecords, read_refusal_order, set_order}

-- the set on another line
abbrev pub on_line : ℕ → TriangleSet → TriangleSet
on_line line s =
    record {
      line = line;
      has_incurred = s.has_incurred;
      counts = s.counts;
      paid = s.paid;
      incurred = s.incurred;
    }

-- two files that are refused with one number, or whose sets differ in the line at most
pub record SameButLine (m : ℕ) (f g : List ℕ) : Type 0 where
  pub refusals : read_refusal m f ≡ read_refusal m g
  pub sets : read_refusal m f ≡ 0 → set_of m g ≡ on_line (set_of m g).line (set_of m f)

-- accepted files whose sets differ in the line alone
pub lines_apart : (m : ℕ) (f g : List ℕ) → read_refusal m f ≡ 0 → read_refusal m g ≡ 0 → set_of m g ≡ on_line (set_of m g).line (set_of m f) → SameButLine m f g
lines_apart m f g a b e = record { refusals = a ∙ sym b; sets = λ _. e }

-- files with the same records in any order
pub order_alike : (f g : List ℕ) → SameRecords f g → (m : ℕ) → SameButLine m f g
order_alike f g same m = record { refusals = read_refusal_order f g same m; sets = λ z. rw (set_order f g same m z) }

module _ {m : ℕ} {f g : List ℕ} (alike : SameButLine m f g) where
  -- ---- the refusal of a call whose questions do not look at the line
  module _ (own : Bool → List Question) (of_set : TriangleSet → List Question) (unseen : (v : ℕ) (s : TriangleSet) → of_set (on_line v s) ≡ of_set s) where
    abbrev asked : List ℕ → ℕ
    asked h = call_refusal m h (own (has_incurred m h)) (of_set (set_of m h))

    flags : read_refusal m f ≡ 0 → has_incurred m f ≡ has_incurred m g
    unfolding set_of
    flags z = sym (ap (λ (s : TriangleSet). s.has_incurred) (alike.sets z))

    questions : read_refusal m f ≡ 0 → of_set (set_of m f) ≡ of_set (set_of m g)
    questions z = sym (ap of_set (alike.sets z) ∙ unseen (set_of m g).line (set_of m f))

    pub call_alike : asked f ≡ asked g
    call_alike =
        by_test (eqb (read_refusal m f) 0)
        (λ t. let z = eqb-true _ 0 t in
        after_file m f _ _ z ∙ rw (flags z, questions z) (sym (after_file m g _ _ (sym alike.refusals ∙ z))))
        (λ t. let o = eqb-false _ 0 t in
        by_file m f _ _ o ∙ alike.refusals ∙ sym (by_file m g _ _ (λ z. o (alike.refusals ∙ z))))

-- ---- an answer made of the set, or of the refusal's number, under whatever view of it
pub answered_alike : (m : ℕ) (f g : List ℕ) {A : Type 0} (view : A → A) (accepted : TriangleSet → A) (refused : ℕ → A) {n k : ℕ}
    → n ≡ k → (n ≡ 0 → view (accepted (set_of m f)) ≡ view (accepted (set_of m g))) → view (if_accepted n (accepted (set_of m f)) (refused n)) ≡ view (if_accepted k (accepted (set_of m g)) (refused k))
answered_alike m f g view accepted refused {n} e h = rw (← e) (by_test (eqb n 0) (λ t. rw t (h (eqb-true n 0 t))) (λ t. rw t))
