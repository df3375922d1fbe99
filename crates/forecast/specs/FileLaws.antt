-- Laws of the forecast of a file: its refusal question by question, and its whole contract from the
-- forecast of the set. Assumes nothing.
use Rattle.std.specs.Prelude.{◌≡◌, refl, Option, Some, None, ℕ, ◌≤◌, ◌<◌, ℤ, length}
use Rattle.std.proofs.Common.{sym, ◌∙◌}
use mathlib.Core.List.{List, [], ◌∷◌}
use borrow.Author.Tests.{le-leb, lt-leb, leb-true}
use Rattle.model.specs.Records.{line_of, set_of, has_incurred}
use Rattle.model.specs.Delays.{delays_of}
use Rattle.model.specs.Cells.{size, output_from}
use Rattle.model.specs.RowBases.{leftovers}
use Rattle.model.specs.PaidReserve.{NearReserves}
use Rattle.model.specs.Questions.{Question, q6, q7, first_no, of_forecast, of_forecast_with}
use Rattle.model.specs.Calls.{if_accepted, zeros, call_refusal, accepted_forecast, refused_forecast, forecast_refusal, forecast_answer, forecast_with_refusal, forecast_with_answer}
use Rattle.model.specs.CallsLaws as CallsLaws
use Rattle.model.specs.CallsLaws.{settings_refusal, if_refused, number_of, beside, as_answered}
use Rattle.model.specs.declared.TriangleSet.{TriangleSet}
use Rattle.model.specs.declared.ForecastAnswer.{ForecastAnswer}
use Rattle.delays.specs.Prepared.{asks_delays}
use Rattle.set_forecast.specs.SetForecast.{Answered, set_refusal, of_either, either_delays}

-- with the delays from either side
module _ (m : ℕ) (f : List ℕ) (method basis : ℕ) (given : Option (List ℤ)) (before : List ℤ) where
  abbrev s : TriangleSet
  s = set_of m f

  abbrev own : List Question
  own = of_either m s given method

  abbrev refusal : ℕ
  refusal = call_refusal m f ((6, q6 (has_incurred m f) method basis) ∷ (7, q7 m (length before)) ∷ []) own

  abbrev settings : ℕ
  settings = settings_refusal m f method basis

  -- ---- the refusal, question by question
  pub by_settings : (settings ≡ 0 → ⊥) → refusal ≡ settings
  by_settings = CallsLaws.by_settings m f method basis 6 (q7 m (length before)) own

  pub by_room : settings ≡ 0 → length before < size m → refusal ≡ 7
  unfolding q7
  by_room z h = CallsLaws.no_own m f method basis 6 (q7 m (length before)) own z (lt-leb (size m) (length before) h)

  by_set : settings ≡ 0 → size m ≤ length before → refusal ≡ first_no own
  unfolding q7
  by_set z h = CallsLaws.to_set m f method basis 6 (q7 m (length before)) own z (le-leb (size m) (length before) h)

  -- ---- the contract, over the refusal number n, the leftovers before and after, and the output
  abbrev yes : ForecastAnswer
  yes = accepted_forecast s.line (leftovers m s method)

  abbrev answer : ForecastAnswer
  answer = if_accepted refusal yes (refused_forecast refusal)

  abbrev pub Into : ℕ → List ℤ → List ℤ → List ℤ → Type 0
  Into n left lefts after =
      (n ≡ answer.refusal)
      × ((lefts ≡ if_accepted n answer.leftovers left)
      × ((after ≡ if_accepted refusal (output_from m s (either_delays m s given) method basis before) before)
      × (n ≡ 0 → method ≡ 0 → basis ≡ 1 → NearReserves m s.paid after)))

  number_is : answer.refusal ≡ refusal
  number_is = number_of refusal _ _ (λ (x : ForecastAnswer). x.refusal) refl refl

  -- a refusal leaves both as they were
  pub refused : {n : ℕ} {left : List ℤ} → (n ≡ 0 → ⊥) → refusal ≡ n → Into n left left before
  refused o e = (sym (number_is ∙ e), (sym (if_refused _ _ _ o), (sym (if_refused _ _ _ (λ z. o (sym e ∙ z))), λ z. absurd (o z))))

  lefts_beside : {n : ℕ} (left : List ℤ) → n ≡ refusal → if_accepted n (leftovers m s method) left ≡ if_accepted n answer.leftovers left
  lefts_beside left e = rw e (beside refusal yes _ (λ (a : ForecastAnswer). a.leftovers) left)

  -- the line that stands there is the answer's
  pub line_beside : {n : ℕ} → n ≡ answer.refusal → (x : ℕ) → if_accepted n (line_of f) x ≡ if_accepted n answer.line x
  unfolding set_of
  line_beside e x = rw (e ∙ number_is) (beside refusal yes _ (λ (a : ForecastAnswer). a.line) x)

  -- what the forecast of the file's set t answers and writes is the file's
  pub forecasted : settings ≡ 0 → size m ≤ length before → {t : TriangleSet} → t ≡ s → {n : ℕ} {left lefts after : List ℤ}
      → Answered (first_no (of_either m t given method)) m t (either_delays m t given) method basis n left lefts before after
      → (n ≡ 0 → method ≡ 0 → basis ≡ 1 → NearReserves m t.paid after) → Into n left lefts after
  forecasted passed room {t} is {n} {left} {lefts} {after} made near =
      let a : Answered (first_no own) m s (either_delays m s given) method basis n left lefts before after = rw is at made in
      let e : n ≡ refusal = a.refusal ∙ sym (by_set passed room) in
      (e ∙ sym number_is, (a.leftovers_are ∙ lefts_beside left e, (a.output ∙ rw e, rw is at near)))

  -- with zeros for leftovers and for the line it is the answer by value
  pub by_value : {n line : ℕ} {lefts after : List ℤ} → Into n (zeros 20) lefts after → line ≡ if_accepted n (line_of f) 0 → record { refusal = n; line = line; leftovers = lefts } ≡ answer
  by_value {n} e l = rw (l ∙ line_beside e.0 0 ∙ whole (λ a. a.line) refl, e.1.0 ∙ whole (λ a. a.leftovers) refl, e.0)
    where
      whole : {A : Type 0} (part : ForecastAnswer → A) {x : A} → part (refused_forecast refusal) ≡ x → if_accepted n (part answer) x ≡ part answer
      whole part {x} z = rw (e.0 ∙ number_is) (as_answered refusal _ _ part x z)

-- the line that stands beside the answer of either call
module _ (m : ℕ) (f : List ℕ) (method basis : ℕ) (before : List ℤ) {n : ℕ} where
  pub forecast_line : n ≡ (forecast_answer m f method basis (length before)).refusal → (x : ℕ) → if_accepted n (line_of f) x ≡ if_accepted n (forecast_answer m f method basis (length before)).line x
  unfolding forecast_refusal forecast_answer of_forecast of_either asks_delays delays_of
  forecast_line = line_beside m f method basis None before

  pub forecast_with_line : (p : List ℤ) → n ≡ (forecast_with_answer m f method basis p (length before)).refusal → (x : ℕ) → if_accepted n (line_of f) x ≡ if_accepted n (forecast_with_answer m f method basis p (length before)).line x
  unfolding forecast_with_refusal forecast_with_answer of_forecast_with of_either asks_delays
  forecast_with_line p = line_beside m f method basis (Some p) before

-- with those solved here
module _ (m : ℕ) (f : List ℕ) (method basis : ℕ) (before : List ℤ) where
  abbrev solved : ℕ
  solved = forecast_refusal m f method basis (length before)

  -- what the questions say of an accepted file
  pub passed : solved ≡ 0 → (settings_refusal m f method basis ≡ 0) × (size m ≤ length before) × (set_refusal m (set_of m f) method ≡ 0)
  unfolding forecast_refusal q7 set_refusal
  passed z =
      let a = CallsLaws.call_so m f method basis 6 (q7 m (length before)) (of_forecast m (set_of m f) (delays_of m (set_of m f)) method) z in
      (a.0, leb-true (size m) (length before) a.1, a.2)

  pub accepted : settings_refusal m f method basis ≡ 0 → size m ≤ length before → set_refusal m (set_of m f) method ≡ 0 → solved ≡ 0
  unfolding forecast_refusal q7 set_refusal
  accepted z h e = CallsLaws.to_set m f method basis 6 (q7 m (length before)) (of_forecast m (set_of m f) (delays_of m (set_of m f)) method) z (le-leb (size m) (length before) h) ∙ e
