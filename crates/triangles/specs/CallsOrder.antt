-- The order of the records changes no call's answer: the questions are answered alike, and the set
-- of an accepted file is the same. Assumes nothing.
use Rattle.std.specs.Prelude.{◌≡◌, List, ℕ, ℤ}
use Rattle.std.proofs.Common.{ap}
use Rattle.model.specs.Records.{set_of}
use Rattle.model.specs.Delays.{delays_of}
use Rattle.model.specs.RowBases.{leftovers}
use Rattle.model.specs.ClaimCosts.{claim_costs}
use Rattle.model.specs.Calls.{if_accepted, read_refusal, accepted_read, refused_read, read_answer, shares_refusal, shares_of, refused_shares, shares_answer, delays_refusal, accepted_delays, refused_delays, delays_answer, check_delays_refusal, accepted_check, refused_check, check_delays_answer, forecast_refusal, accepted_forecast, refused_forecast, forecast_answer, forecast_output, forecast_with_refusal, forecast_with_answer, forecast_with_output, accepted_claim_costs, refused_claim_costs, claim_costs_answer, back_test_refusal, back_test_of, refused_back_test, back_test_answer}
use Rattle.model.specs.CallsLaws.{read_passed}
use Rattle.model.specs.declared.TriangleSet.{TriangleSet}
use Rattle.triangles.specs.Order.{SameRecords, set_order}
use Rattle.triangles.specs.Lines.{SameButLine, order_alike, answered_alike}
use Rattle.triangles.specs.CallsLines.{shares_refusal_alike, delays_refusal_alike, check_refusal_alike, forecast_refusal_alike, output_alike, with_refusal_alike, output_with_alike, back_test_refusal_alike}

module _ (f g : List ℕ) (same : SameRecords f g) (m : ℕ) where
  abbrev alike : SameButLine m f g
  alike = order_alike f g same m

  -- an answer that is made of the set
  pub answer_order : {A : Type 0} (accepted : TriangleSet → A) (refused : ℕ → A) {n k : ℕ} → n ≡ k → (n ≡ 0 → read_refusal m f ≡ 0)
      → if_accepted n (accepted (set_of m f)) (refused n) ≡ if_accepted k (accepted (set_of m g)) (refused k)
  answer_order accepted refused e read = answered_alike m f g (λ x. x) accepted refused e (λ z. ap accepted (set_order f g same m (read z)))

  pub read_order : read_answer m f ≡ read_answer m g
  unfolding read_answer
  read_order = answer_order accepted_read refused_read alike.refusals (λ z. z)

  pub shares_order : shares_answer m f ≡ shares_answer m g
  unfolding shares_answer shares_refusal
  shares_order = answer_order (shares_of m) refused_shares (shares_refusal_alike alike) (read_passed m f _ _)

  pub claim_costs_order : claim_costs_answer m f ≡ claim_costs_answer m g
  unfolding claim_costs_answer shares_refusal
  claim_costs_order = answer_order (λ s. accepted_claim_costs s.line (claim_costs m s)) refused_claim_costs (shares_refusal_alike alike) (read_passed m f _ _)

  pub delays_order : delays_answer m f ≡ delays_answer m g
  unfolding delays_answer delays_refusal
  delays_order = answer_order (λ s. accepted_delays s.line (delays_of m s)) refused_delays (delays_refusal_alike alike) (read_passed m f _ _)

  pub check_delays_order : (p : List ℤ) → check_delays_answer m f p ≡ check_delays_answer m g p
  unfolding check_delays_answer check_delays_refusal
  check_delays_order p = answer_order (λ s. accepted_check s.line) refused_check (check_refusal_alike alike p) (read_passed m f _ _)

  module _ (method basis : ℕ) where
    pub forecast_order : (room : ℕ) → forecast_answer m f method basis room ≡ forecast_answer m g method basis room
    unfolding forecast_answer forecast_refusal
    forecast_order room =
        answer_order (λ s. accepted_forecast s.line (leftovers m s method)) refused_forecast (forecast_refusal_alike alike method basis room) (read_passed m f _ _)

    pub output_order : (before : List ℤ) → forecast_output m f method basis before ≡ forecast_output m g method basis before
    output_order = output_alike alike method basis

    module _ (p : List ℤ) where
      pub forecast_with_order : (room : ℕ) → forecast_with_answer m f method basis p room ≡ forecast_with_answer m g method basis p room
      unfolding forecast_with_answer forecast_with_refusal
      forecast_with_order room =
          answer_order (λ s. accepted_forecast s.line (leftovers m s method)) refused_forecast (with_refusal_alike alike method basis p room) (read_passed m f _ _)

      pub output_with_order : (before : List ℤ) → forecast_with_output m f method basis p before ≡ forecast_with_output m g method basis p before
      output_with_order = output_with_alike alike method basis p

    pub back_test_order : (c : ℕ) → back_test_answer m f c method basis ≡ back_test_answer m g c method basis
    unfolding back_test_answer back_test_refusal
    back_test_order c = answer_order (λ s. back_test_of m s c method basis) refused_back_test (back_test_refusal_alike alike method basis c) (read_passed m f _ _)
