-- What the call `shares` hands back of a file. Assumes nothing.
use Rattle.std.specs.Prelude.{◌≡◌, ℕ, ℤ}
use Rattle.std.proofs.Math.Path.{refl}
use Rattle.std.proofs.Common.{◌∙◌}
use mathlib.Core.List.{List, []}
use Rattle.model.specs.Records.{line_of, set_of}
use Rattle.model.specs.Questions.{first_no, of_shares}
use Rattle.model.specs.QuestionsLaws.{no_refusal, numbered}
use Rattle.model.specs.Calls.{if_accepted, zeros, read_refusal, shares_refusal, shares_of, refused_shares, shares_answer}
use Rattle.model.specs.CallsLaws.{by_file, by_set, beside, as_answered, if_accepted_lem, number_of}
use Rattle.model.specs.declared.SharesAnswer.{SharesAnswer}

module _ (m : ℕ) (f : List ℕ) where
  -- the first no of the set's questions
  abbrev of_set : ℕ
  of_set = first_no (of_shares m (set_of m f).counts (set_of m f).paid)

  -- a refusal by the file's questions, and none
  pub shares_first : (read_refusal m f ≡ 0 → ⊥) → shares_refusal m f ≡ read_refusal m f
  unfolding shares_refusal
  shares_first = by_file m f [] _

  pub shares_after : read_refusal m f ≡ 0 → shares_refusal m f ≡ of_set
  unfolding shares_refusal numbered
  shares_after read = by_set m f [] _ refl read (no_refusal [] tt)

  pub shares_yes : shares_refusal m f ≡ 0 → shares_answer m f ≡ shares_of m (set_of m f)
  unfolding shares_answer
  shares_yes e = if_accepted_lem _ _ _ e

  pub shares_refusal_lem : (shares_answer m f).refusal ≡ shares_refusal m f
  unfolding shares_answer shares_of
  shares_refusal_lem = number_of _ _ _ (λ (x : SharesAnswer). x.refusal) refl refl

  -- the line that stands there is the answer's
  pub shares_line : {n : ℕ} → n ≡ (shares_answer m f).refusal → (x : ℕ) → if_accepted n (line_of f) x ≡ if_accepted n (shares_answer m f).line x
  unfolding shares_answer shares_of set_of
  shares_line e x = rw (e ∙ shares_refusal_lem) (beside (shares_refusal m f) (shares_of m (set_of m f)) _ (λ (a : SharesAnswer). a.line) x)

  -- what is written over zeros is the answer
  as_made : {A : Type 0} {n : ℕ} → n ≡ (shares_answer m f).refusal → (part : SharesAnswer → A) {x : A} → part (refused_shares (shares_refusal m f)) ≡ x
      → if_accepted n (part (shares_answer m f)) x ≡ part (shares_answer m f)
  unfolding shares_answer
  as_made e part {x} z = rw (e ∙ shares_refusal_lem) (as_answered (shares_refusal m f) _ _ part x z)

  pub shares_whole : {k line : ℕ} {b n q g u : List ℤ} → k ≡ (shares_answer m f).refusal → line ≡ if_accepted k (line_of f) 0
      → b ≡ if_accepted k (shares_answer m f).b (zeros 20) → n ≡ if_accepted k (shares_answer m f).n (zeros 20) → q ≡ if_accepted k (shares_answer m f).q (zeros 20)
      → g ≡ if_accepted k (shares_answer m f).g (zeros 20) → u ≡ if_accepted k (shares_answer m f).u (zeros 20)
      → record { refusal = k; line = line; b = b; n = n; q = q; g = g; u = u } ≡ shares_answer m f
  shares_whole e el eb en eq eg eu =
      rw (
        el ∙ shares_line e 0 ∙ as_made e (λ x. x.line) refl,
        eb ∙ as_made e (λ x. x.b) refl,
        en ∙ as_made e (λ x. x.n) refl,
        eq ∙ as_made e (λ x. x.q) refl,
        eg ∙ as_made e (λ x. x.g) refl,
        eu ∙ as_made e (λ x. x.u) refl,
        e,
      )
