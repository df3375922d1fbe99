-- Laws of the call: its refusal question by question, and its contract. Assumes nothing.
use Rattle.std.proofs.Math.Path.{◌≡◌, sym, ap, ap₂}
use Rattle.std.specs.Prelude.{refl, true, false, List, [], ◌∷◌, ◌++◌, ℕ, ◌-◌, ◌*◌, ℤ}
use Rattle.std.proofs.Common.{◌∙◌, arith}
use Rattle.model.specs.Records.{set_of}
use Rattle.model.specs.Delays.{delays_of}
use Rattle.model.specs.Cash.{cash_in}
use Rattle.model.specs.Calendar.{tally_of}
use Rattle.model.specs.Questions.{Question, q6, q19, first_no, of_forecast}
use Rattle.model.specs.QuestionsLaws.{forecast_numbered, stage_no, stage_yes, stages_so}
use Rattle.model.specs.Calls.{zeros, call_refusal, file_tally, cash_refusal, accepted_cash, refused_cash, cash_answer}
use Rattle.model.specs.CallsLaws.{read_passed, settings_refusal, first_settings, after_settings, both_so, if_accepted_lem, if_refused}
use Rattle.model.specs.Tests.{by_test}
use Rattle.model.specs.declared.TriangleSet.{TriangleSet}
use Rattle.model.specs.declared.Date.{Date}
use Rattle.model.specs.declared.CashAnswer.{CashAnswer}
use Rattle.triangles.specs.Order.{SameRecords}
use Rattle.triangles.specs.Lines.{SameButLine, order_alike, call_alike, answered_alike}
use Rattle.triangles.specs.CallsLines.{forecast_unseen, output_alike}
use Rattle.triangles.specs.CallsOrder.{answer_order}
use Rattle.set_forecast.specs.SetForecast.{set_refusal}

module _ (m : ℕ) (f : List ℕ) (method basis : ℕ) (v a b : Date) where
  abbrev s : TriangleSet
  s = set_of m f

  abbrev settings : ℕ
  settings = settings_refusal m f method basis

  abbrev refusal : ℕ
  refusal = cash_refusal m f method basis v a b

  abbrev of_set : List Question
  of_set = of_forecast m s (delays_of m s) method

  abbrev of_dates : List Question
  of_dates = (19, q19 m v a b) ∷ []

  -- ---- the refusal
  pub by_settings : (settings ≡ 0 → ⊥) → refusal ≡ settings
  unfolding cash_refusal call_refusal
  by_settings = first_settings m f method basis (of_set ++ of_dates)

  module _ (passed : settings ≡ 0) where
    after : refusal ≡ first_no (of_set ++ of_dates)
    unfolding cash_refusal call_refusal
    after = after_settings m f method basis (of_set ++ of_dates) passed

    pub by_set : (set_refusal m s method ≡ 0 → ⊥) → refusal ≡ set_refusal m s method
    unfolding set_refusal
    by_set o = after ∙ stage_no of_set of_dates (forecast_numbered m s (delays_of m s) method) o

    module _ (forecast : set_refusal m s method ≡ 0) where
      last : refusal ≡ first_no of_dates
      unfolding set_refusal
      last = after ∙ stage_yes of_set of_dates (forecast_numbered m s (delays_of m s) method) forecast

      pub by_dates : q19 m v a b ≡ false → refusal ≡ 19
      unfolding first_no
      by_dates e = last ∙ rw e

      pub accepted : q19 m v a b ≡ true → refusal ≡ 0
      unfolding first_no
      accepted e = last ∙ rw e

  -- what the questions say of an accepted window
  pub cash_so : refusal ≡ 0 → (settings ≡ 0) × (set_refusal m s method ≡ 0) × (q19 m v a b ≡ true)
  unfolding cash_refusal call_refusal set_refusal first_no
  cash_so z =
      let x = both_so m f method basis (of_set ++ of_dates) z in
      let y = stages_so of_set of_dates (forecast_numbered m s (delays_of m s) method) x.1 in
      (x.0, y.0, by_test (q19 m v a b) (λ e. e) (λ e. absurd (let n : ◌≡◌ {A = ℕ} 19 0 = rw e at y.1 in omega arith)))

  -- ---- the answer
  abbrev amount : ℤ
  amount = cash_in (2 * m - 2) (file_tally m f method basis) v a b

  pub refused_is : {n : ℕ} → (n ≡ 0 → ⊥) → refusal ≡ n → refused_cash n ≡ cash_answer m f method basis v a b
  unfolding cash_answer
  refused_is o e = sym (if_refused refusal (accepted_cash s.line amount) (refused_cash refusal) (λ z. o (sym e ∙ z)) ∙ ap refused_cash e)

  pub accepted_is : {line : ℕ} {z : ℤ} → refusal ≡ 0 → line ≡ s.line → z ≡ amount → accepted_cash line z ≡ cash_answer m f method basis v a b
  unfolding cash_answer
  accepted_is e l q = ap₂ accepted_cash l q ∙ sym (if_accepted_lem refusal (accepted_cash s.line amount) (refused_cash refusal) e)

-- ---- the line changes nothing but itself (02, Job 7), and the order of the records nothing

-- the answer with another line
abbrev pub cash_on : ℕ → CashAnswer → CashAnswer
cash_on line x = record { refusal = x.refusal; line = line; amount = x.amount }

module _ (method basis : ℕ) (v a b : Date) where
  abbrev made : ℕ → List ℕ → TriangleSet → CashAnswer
  made m f s = accepted_cash s.line (cash_in (2 * m - 2) (file_tally m f method basis) v a b)

  module _ {m : ℕ} {f g : List ℕ} (alike : SameButLine m f g) where
    refusal_alike : cash_refusal m f method basis v a b ≡ cash_refusal m g method basis v a b
    unfolding cash_refusal
    refusal_alike =
        call_alike alike (λ has. (6, q6 has method basis) ∷ []) (λ s. of_forecast m s (delays_of m s) method ++ ((19, q19 m v a b) ∷ []))
        (λ w s. rw (forecast_unseen m method w s))

    tally_alike : file_tally m f method basis ≡ file_tally m g method basis
    unfolding file_tally
    tally_alike = ap (tally_of m) (output_alike alike method basis (zeros 1560))

    pub cash_lines : (line : ℕ) → cash_on line (cash_answer m f method basis v a b) ≡ cash_on line (cash_answer m g method basis v a b)
    unfolding cash_answer
    cash_lines line = rw tally_alike (answered_alike m f g (cash_on line) (made m g) refused_cash refusal_alike (λ z. refl))

  pub cash_order : (f g : List ℕ) → SameRecords f g → (m : ℕ) → cash_answer m f method basis v a b ≡ cash_answer m g method basis v a b
  unfolding cash_answer cash_refusal
  cash_order f g same m =
      let alike = order_alike f g same m in
      rw (tally_alike alike) (answer_order f g same m (made m g) refused_cash (refusal_alike alike) (read_passed m f _ _))
