-- Laws of Calls: a call's refusal by its stages, and its answer by its refusal. Assumes nothing.
use Rattle.std.specs.Prelude.{◌≡◌, Bool, true, false, eqb}
use Rattle.std.proofs.Math.Path.{refl}
use Rattle.std.proofs.Common.{sym, ◌∙◌, ap, arith, ne_eqb, eqb-true}
use mathlib.Core.List.{List, [], ◌∷◌, ◌++◌, append_assoc}
use Prim.Native.Nat.{ℕ, suc}
use Rattle.model.specs.Records.{has_incurred}
use Rattle.model.specs.Questions.{Question, q6, first_no, of_file, of_records}
use Rattle.model.specs.QuestionsLaws.{EachYes, numbered, each_yes, stage_no, stage_yes, stages_so}
use Rattle.model.specs.Calls.{if_accepted, call_refusal, read_refusal, forecast_refusal, forecast_answer}
use Rattle.model.specs.Tests.{by_test}
use Rattle.model.specs.declared.ForecastAnswer.{ForecastAnswer}

-- ---- what is handed back beside the refusal number n
module _ {A : Type 0} (n : ℕ) (yes no : A) where
  pub if_accepted_lem : n ≡ 0 → if_accepted n yes no ≡ yes
  if_accepted_lem e = rw e

  pub if_refused : (n ≡ 0 → ⊥) → if_accepted n yes no ≡ no
  if_refused o = rw (ne_eqb n 0 o)

  -- where each holds its own number, so does the answer
  pub number_of : (number : A → ℕ) → number yes ≡ 0 → number no ≡ n → number (if_accepted n yes no) ≡ n
  number_of number y o = by_test (eqb n 0) (λ t. let z : n ≡ 0 = eqb-true n 0 t in rw t (y ∙ sym z)) (λ t. rw t o)

-- a part of what is accepted, over what stands there, is that part of the answer
pub beside : {A B : Type 0} (n : ℕ) (a b : A) (part : A → B) (x : B) → if_accepted n (part a) x ≡ if_accepted n (part (if_accepted n a b)) x
beside n a b part x = by_test (eqb n 0) (λ t. rw t) (λ t. rw t)

-- what is written of an answer over what stands beside its refusal is the answer's
pub as_answered : {A B : Type 0} (n : ℕ) (a b : A) (part : A → B) (x : B) → part b ≡ x → if_accepted n (part (if_accepted n a b)) x ≡ part (if_accepted n a b)
as_answered n a b part x e = by_test (eqb n 0) (λ t. rw t) (λ t. rw (t, e))

-- ---- the questions of the file, then the call's own, then those of the set
module _ (m : ℕ) (f : List ℕ) (own of_set : List Question) where
  file_numbered : numbered (of_file m f) ≡ true
  unfolding numbered of_file of_records
  file_numbered = refl

  pub by_file : (read_refusal m f ≡ 0 → ⊥) → call_refusal m f own of_set ≡ read_refusal m f
  unfolding call_refusal read_refusal
  by_file = stage_no (of_file m f) (own ++ of_set) file_numbered

  pub after_file : read_refusal m f ≡ 0 → call_refusal m f own of_set ≡ first_no (own ++ of_set)
  unfolding call_refusal read_refusal
  after_file = stage_yes (of_file m f) (own ++ of_set) file_numbered

  pub read_passed : call_refusal m f own of_set ≡ 0 → read_refusal m f ≡ 0
  unfolding call_refusal read_refusal
  read_passed z = (stages_so (of_file m f) (own ++ of_set) file_numbered z).0

  module _ (numbers : numbered own ≡ true) where
    pub by_set : read_refusal m f ≡ 0 → first_no own ≡ 0 → call_refusal m f own of_set ≡ first_no of_set
    by_set read e = after_file read ∙ stage_yes own of_set numbers e

    pub all_passed : call_refusal m f own of_set ≡ 0 → (read_refusal m f ≡ 0) × (first_no own ≡ 0) × (first_no of_set ≡ 0)
    unfolding call_refusal read_refusal
    all_passed z =
        let a = stages_so (of_file m f) (own ++ of_set) file_numbered z in
        let b = stages_so own of_set numbers a.1 in
        (a.0, b.0, b.1)

-- ---- questions 1 to 6, of a file that is to be forecast by a method and a basis
unfoldable pub settings_refusal : ℕ → List ℕ → ℕ → ℕ → ℕ
settings_refusal m f method basis = call_refusal m f ((6, q6 (has_incurred m f) method basis) ∷ []) []

module _ (m : ℕ) (f : List ℕ) (method basis : ℕ) where
  abbrev six : Bool
  six = q6 (has_incurred m f) method basis

  abbrev settings : ℕ
  settings = settings_refusal m f method basis

  pub file_no : (read_refusal m f ≡ 0 → ⊥) → settings ≡ read_refusal m f
  unfolding settings_refusal
  file_no = by_file m f ((6, six) ∷ []) []

  module _ (read : read_refusal m f ≡ 0) where
    pub six_no : six ≡ false → settings ≡ 6
    unfolding settings_refusal first_no
    six_no e = after_file m f ((6, six) ∷ []) [] read ∙ rw e

    pub six_yes : six ≡ true → settings ≡ 0
    unfolding settings_refusal first_no
    six_yes e = after_file m f ((6, six) ∷ []) [] read ∙ rw e

  pub settings_so : settings ≡ 0 → (read_refusal m f ≡ 0) × (six ≡ true)
  unfolding settings_refusal numbered
  settings_so z =
      let a = all_passed m f ((6, six) ∷ []) [] refl z in
      let h : EachYes ((6, six) ∷ []) = each_yes ((6, six) ∷ []) refl a.1 in
      (a.0, h.0)

  -- they come first, before any others
  module _ (rest : List Question) where
    staged : first_no (of_file m f ++ ((6, six) ∷ rest)) ≡ first_no ((of_file m f ++ ((6, six) ∷ [])) ++ rest)
    staged = ap first_no (sym (append_assoc (of_file m f) ((6, six) ∷ []) rest))

    all_numbered : numbered (of_file m f ++ ((6, six) ∷ [])) ≡ true
    unfolding numbered of_file of_records
    all_numbered = refl

    pub first_settings : (settings ≡ 0 → ⊥) → first_no (of_file m f ++ ((6, six) ∷ rest)) ≡ settings
    unfolding settings_refusal call_refusal
    first_settings o = staged ∙ stage_no (of_file m f ++ ((6, six) ∷ [])) rest all_numbered o

    pub after_settings : settings ≡ 0 → first_no (of_file m f ++ ((6, six) ∷ rest)) ≡ first_no rest
    unfolding settings_refusal call_refusal
    after_settings z = staged ∙ stage_yes (of_file m f ++ ((6, six) ∷ [])) rest all_numbered z

    pub both_so : first_no (of_file m f ++ ((6, six) ∷ rest)) ≡ 0 → (settings ≡ 0) × (first_no rest ≡ 0)
    unfolding settings_refusal call_refusal
    both_so z = stages_so (of_file m f ++ ((6, six) ∷ [])) rest all_numbered (sym staged ∙ z)

  -- one question more of the call's own, number k + 1, and then those of the set
  module _ (k : ℕ) (x : Bool) (of_set : List Question) where
    abbrev refusal : ℕ
    refusal = call_refusal m f ((6, six) ∷ (suc k, x) ∷ []) of_set

    abbrev own : List Question
    own = (suc k, x) ∷ of_set

    pub by_settings : (settings ≡ 0 → ⊥) → refusal ≡ settings
    unfolding call_refusal
    by_settings = first_settings own

    pub no_own : settings ≡ 0 → x ≡ false → refusal ≡ suc k
    unfolding call_refusal first_no
    no_own z e = after_settings own z ∙ rw e

    pub to_set : settings ≡ 0 → x ≡ true → refusal ≡ first_no of_set
    unfolding call_refusal first_no
    to_set z e = after_settings own z ∙ rw e

    pub call_so : refusal ≡ 0 → (settings ≡ 0) × (x ≡ true) × (first_no of_set ≡ 0)
    unfolding call_refusal first_no
    call_so z =
        let a = both_so own z in
        by_test x (λ e. (a.0, e, rw e at a.1)) (λ e. absurd (let n : suc k ≡ 0 = rw e at a.1 in omega arith))

-- ---- the forecast
pub forecast_refusal_lem : (m : ℕ) (f : List ℕ) (method basis room : ℕ) {a : ForecastAnswer} → a ≡ forecast_answer m f method basis room → a.refusal ≡ forecast_refusal m f method basis room
unfolding forecast_answer
forecast_refusal_lem m f method basis room e =
    ap (λ (x : ForecastAnswer). x.refusal) e ∙ number_of (forecast_refusal m f method basis room) _ _ (λ (x : ForecastAnswer). x.refusal) refl refl
