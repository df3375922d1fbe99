-- Laws of the questions of a journal, one transaction after the other. Assumes nothing.
use Prim.Native.Nat.{ℕ, zero, suc, ◌<◌}
use Rattle.std.proofs.Common.{eq-or-lt_of_le, le_of_suc-le-suc, not-suc-le-zero, sym, ◌∙◌}
use Rattle.std.specs.Prelude.{◌≡◌, true, List, [], ◌∷◌, ◌++◌, leb}
use Rattle.std.proofs.Math.Path.{refl, subst}
use Rattle.std.proofs.Math.Logic.{⊎_elim}
use Rattle.model.specs.Lists.{chained}
use Rattle.model.specs.ListsLaws.{and_left, and_right}
use Rattle.model.specs.Questions.{Question, first_no}
use Rattle.model.specs.QuestionsLaws.{numbered, stage_no, stage_yes, stages_so}
use Rattle.model.specs.Journal.{transaction_at, of_booking, of_transaction, tally_after, of_transactions}

numbered_append : (xs ys : List Question) → numbered xs ≡ true → numbered ys ≡ true → numbered (xs ++ ys) ≡ true
unfolding numbered
numbered_append [] ys h k = k
numbered_append (q ∷ xs) ys h k = rw (and_left (leb 1 q.0) (numbered xs) h) (numbered_append xs ys (and_right (leb 1 q.0) (numbered xs) h) k)

module _ (m : ℕ) (f : List ℕ) where
  -- what transaction k is asked
  abbrev pub asked : ℕ → List Question
  asked k = of_transaction m (tally_after f k) (transaction_at f k)

  numbered_all : (n : ℕ) → numbered (of_transactions m f n) ≡ true
  unfolding of_transactions chained numbered of_transaction of_booking
  numbered_all zero = refl
  numbered_all (suc n) = numbered_append (of_transactions m f n) (asked n) (numbered_all n) refl

  pub none_asked : first_no (of_transactions m f 0) ≡ 0
  unfolding of_transactions chained first_no
  none_asked = refl

  -- one transaction more
  pub more_asked : (k : ℕ) → first_no (of_transactions m f k) ≡ 0 → first_no (of_transactions m f (suc k)) ≡ first_no (asked k)
  unfolding of_transactions chained
  more_asked k e = stage_yes (of_transactions m f k) (asked k) (numbered_all k) e

  -- a refusal stands, whatever comes after it
  pub refused_at : (n k : ℕ) → k < n → first_no (of_transactions m f k) ≡ 0 → (first_no (asked k) ≡ 0 → ⊥) → first_no (of_transactions m f n) ≡ first_no (asked k)
  unfolding of_transactions chained
  refused_at zero k l e w = absurd (not-suc-le-zero l)
  refused_at (suc n) k l e w =
      ⊎_elim (λ q. subst (λ (i : ℕ). first_no (of_transactions m f (suc i)) ≡ first_no (asked k)) q (more_asked k e))
      (λ h. let s = refused_at n k h e w in stage_no (of_transactions m f n) (asked n) (numbered_all n) (λ z. w (sym s ∙ z)) ∙ s)
      (eq-or-lt_of_le (le_of_suc-le-suc l))

  -- where none is refused, each has been accepted
  pub accepted_at : (n k : ℕ) → k < n → first_no (of_transactions m f n) ≡ 0 → first_no (asked k) ≡ 0
  unfolding of_transactions chained
  accepted_at zero k l e = absurd (not-suc-le-zero l)
  accepted_at (suc n) k l e =
      let s = stages_so (of_transactions m f n) (asked n) (numbered_all n) e in
      ⊎_elim (λ q. subst (λ (i : ℕ). first_no (asked i) ≡ 0) (sym q) s.1) (λ h. accepted_at n k h s.0) (eq-or-lt_of_le (le_of_suc-le-suc l))
