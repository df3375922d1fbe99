-- 02, Job 7: two files that the reader answers alike but for the line get the same answers but for
-- the line from every call; those of the closing page, of `closing` and of cash by dates stand in
-- `calendar` and `cash`. Assumes nothing.
use Rattle.std.specs.Prelude.{◌≡◌, List, [], ◌∷◌, ◌++◌, ℕ, ◌-◌, ℤ}
use Rattle.std.proofs.Math.Path.{refl}
use Rattle.std.proofs.Common.{sym, ap}
use Rattle.model.specs.Delays.{delays_of}
use Rattle.model.specs.RowBases.{U, W, R, R*, row_base, leftover, leftovers}
use Rattle.model.specs.Cells.{s_list, rbns, ibnr, entry, entries, output_from}
use Rattle.model.specs.ClaimCosts.{mean_cost, factor, inflation, claim_costs}
use Rattle.model.specs.BackTest.{cut_to, gap}
use Rattle.model.specs.Questions.{q6, q7, q8, q14, of_shares, of_delays, of_given_delays, of_method, of_forecast, of_forecast_with}
use Rattle.model.specs.Calls.{read_refusal, accepted_read, refused_read, read_answer, shares_refusal, shares_of, refused_shares, shares_answer, delays_refusal, accepted_delays, refused_delays, delays_answer, check_delays_refusal, accepted_check, refused_check, check_delays_answer, forecast_refusal, accepted_forecast, refused_forecast, forecast_answer, forecast_output, forecast_with_refusal, forecast_with_answer, forecast_with_output, accepted_claim_costs, refused_claim_costs, claim_costs_answer, back_test_refusal, back_test_of, refused_back_test, back_test_answer}
use Rattle.model.specs.CallsLaws.{read_passed}
use Rattle.model.specs.declared.TriangleSet.{TriangleSet}
use Rattle.model.specs.declared.ReadAnswer.{ReadAnswer}
use Rattle.model.specs.declared.SharesAnswer.{SharesAnswer}
use Rattle.model.specs.declared.DelaysAnswer.{DelaysAnswer}
use Rattle.model.specs.declared.CheckDelaysAnswer.{CheckDelaysAnswer}
use Rattle.model.specs.declared.ForecastAnswer.{ForecastAnswer}
use Rattle.model.specs.declared.ClaimCostsAnswer.{ClaimCostsAnswer}
use Rattle.model.specs.declared.BackTestAnswer.{BackTestAnswer}
use Rattle.triangles.specs.Lines.{on_line, SameButLine, call_alike, answered_alike}

-- ---- the answers with another line

abbrev pub read_on : ℕ → ReadAnswer → ReadAnswer
read_on v a = record { refusal = a.refusal; set = on_line v a.set }

abbrev pub shares_on : ℕ → SharesAnswer → SharesAnswer
shares_on v a = record { refusal = a.refusal; line = v; b = a.b; n = a.n; q = a.q; g = a.g; u = a.u }

abbrev pub delays_on : ℕ → DelaysAnswer → DelaysAnswer
delays_on v a = record { refusal = a.refusal; line = v; p = a.p }

abbrev pub check_on : ℕ → CheckDelaysAnswer → CheckDelaysAnswer
check_on v a = record { refusal = a.refusal; line = v }

abbrev pub forecast_on : ℕ → ForecastAnswer → ForecastAnswer
forecast_on v a = record { refusal = a.refusal; line = v; leftovers = a.leftovers }

abbrev pub costs_on : ℕ → ClaimCostsAnswer → ClaimCostsAnswer
costs_on v a = record { refusal = a.refusal; line = v; costs = a.costs }

abbrev pub test_on : ℕ → BackTestAnswer → BackTestAnswer
test_on v a = record { refusal = a.refusal; line = v; cells = a.cells; cellwise = a.cellwise; yearwise = a.yearwise; overall = a.overall }

-- ---- what the questions and the outputs do not look at

module _ (m : ℕ) (method : ℕ) (v : ℕ) (s : TriangleSet) where
  base_unseen : row_base m (on_line v s) method ≡ row_base m s method
  unfolding row_base U W R R*
  base_unseen = refl

  method_unseen : of_method m (on_line v s) method ≡ of_method m s method
  unfolding of_method q14 row_base U W R R*
  method_unseen = refl

  pub forecast_unseen : of_forecast m (on_line v s) (delays_of m (on_line v s)) method ≡ of_forecast m s (delays_of m s) method
  unfolding of_forecast delays_of
  forecast_unseen = rw method_unseen

  given_unseen : (p : List ℤ) → of_forecast_with m (on_line v s) p method ≡ of_forecast_with m s p method
  unfolding of_forecast_with
  given_unseen p = rw method_unseen

  leftovers_unseen : leftovers m (on_line v s) method ≡ leftovers m s method
  unfolding leftovers leftover U W R R*
  leftovers_unseen = refl

  output_unseen : (basis : ℕ) (p before : List ℤ) → output_from m (on_line v s) p method basis before ≡ output_from m s p method basis before
  unfolding output_from entries entry rbns ibnr s_list row_base U W R R*
  output_unseen basis p before = refl

-- the figures of a back-test
test_unseen : (m c method basis v w : ℕ) (s : TriangleSet) → test_on v (back_test_of m (on_line w s) c method basis) ≡ test_on v (back_test_of m s c method basis)
unfolding back_test_of delays_of cut_to gap rbns ibnr s_list row_base U W R R*
test_unseen m c method basis v w s = refl

-- ---- the calls
module _ {m : ℕ} {f g : List ℕ} (alike : SameButLine m f g) where
  -- the reader
  pub read_lines : (v : ℕ) → read_on v (read_answer m f) ≡ read_on v (read_answer m g)
  unfolding read_answer
  read_lines v = answered_alike m f g (read_on v) accepted_read refused_read alike.refusals (λ z. rw (alike.sets z))

  -- shares and claim costs
  pub shares_refusal_alike : shares_refusal m f ≡ shares_refusal m g
  unfolding shares_refusal
  shares_refusal_alike = call_alike alike (λ _. []) (λ s. of_shares m s.counts s.paid) (λ v s. refl)

  shares_read : shares_refusal m f ≡ 0 → read_refusal m f ≡ 0
  unfolding shares_refusal
  shares_read = read_passed m f _ _

  pub shares_lines : (v : ℕ) → shares_on v (shares_answer m f) ≡ shares_on v (shares_answer m g)
  unfolding shares_answer shares_of
  shares_lines v = answered_alike m f g (shares_on v) (shares_of m) refused_shares shares_refusal_alike (λ z. rw (alike.sets (shares_read z)))

  pub claim_costs_lines : (v : ℕ) → costs_on v (claim_costs_answer m f) ≡ costs_on v (claim_costs_answer m g)
  unfolding claim_costs_answer claim_costs mean_cost factor inflation
  claim_costs_lines v =
      answered_alike m f g (costs_on v) (λ s. accepted_claim_costs s.line (claim_costs m s)) refused_claim_costs shares_refusal_alike (λ z. rw (alike.sets (shares_read z)))

  -- delays
  pub delays_refusal_alike : delays_refusal m f ≡ delays_refusal m g
  unfolding delays_refusal delays_of
  delays_refusal_alike = call_alike alike (λ _. []) (λ s. of_shares m s.counts s.paid ++ of_delays m (delays_of m s)) (λ v s. refl)

  pub delays_lines : (v : ℕ) → delays_on v (delays_answer m f) ≡ delays_on v (delays_answer m g)
  unfolding delays_answer delays_refusal delays_of
  delays_lines v =
      answered_alike m f g (delays_on v) (λ s. accepted_delays s.line (delays_of m s)) refused_delays delays_refusal_alike (λ z. rw (alike.sets (read_passed m f _ _ z)))

  -- given delays
  pub check_refusal_alike : (p : List ℤ) → check_delays_refusal m f p ≡ check_delays_refusal m g p
  unfolding check_delays_refusal
  check_refusal_alike p =
      call_alike alike (λ _. []) (λ s. of_shares m s.counts s.paid ++ of_given_delays m s.counts s.paid p) (λ v s. refl)

  pub check_delays_lines : (p : List ℤ) (v : ℕ) → check_on v (check_delays_answer m f p) ≡ check_on v (check_delays_answer m g p)
  unfolding check_delays_answer
  check_delays_lines p v = answered_alike m f g (check_on v) (λ s. accepted_check s.line) refused_check (check_refusal_alike p) (λ z. refl)

  module _ (method basis : ℕ) where
    -- the forecast
    pub forecast_refusal_alike : (room : ℕ) → forecast_refusal m f method basis room ≡ forecast_refusal m g method basis room
    unfolding forecast_refusal
    forecast_refusal_alike room =
        call_alike alike (λ has. (6, q6 has method basis) ∷ (7, q7 m room) ∷ []) (λ s. of_forecast m s (delays_of m s) method) (forecast_unseen m method)

    pub forecast_lines : (room v : ℕ) → forecast_on v (forecast_answer m f method basis room) ≡ forecast_on v (forecast_answer m g method basis room)
    unfolding forecast_answer forecast_refusal
    forecast_lines room v =
        answered_alike m f g (forecast_on v) (λ s. accepted_forecast s.line (leftovers m s method)) refused_forecast (forecast_refusal_alike room)
        (λ z. rw (alike.sets (read_passed m f _ _ z)) (ap (accepted_forecast v) (sym (leftovers_unseen m method _ _))))

    pub output_alike : (before : List ℤ) → forecast_output m f method basis before ≡ forecast_output m g method basis before
    unfolding forecast_output forecast_refusal delays_of
    output_alike before =
        answered_alike m f g (λ x. x) (λ s. output_from m s (delays_of m s) method basis before) (λ _. before) (forecast_refusal_alike _)
        (λ z. rw (alike.sets (read_passed m f _ _ z)) (sym (output_unseen m method _ _ basis _ before)))

    module _ (p : List ℤ) where
      pub with_refusal_alike : (room : ℕ) → forecast_with_refusal m f method basis p room ≡ forecast_with_refusal m g method basis p room
      unfolding forecast_with_refusal
      with_refusal_alike room =
          call_alike alike (λ has. (6, q6 has method basis) ∷ (7, q7 m room) ∷ []) (λ s. of_forecast_with m s p method) (λ v s. given_unseen m method v s p)

      pub forecast_with_lines : (room v : ℕ) → forecast_on v (forecast_with_answer m f method basis p room) ≡ forecast_on v (forecast_with_answer m g method basis p room)
      unfolding forecast_with_answer forecast_with_refusal
      forecast_with_lines room v =
          answered_alike m f g (forecast_on v) (λ s. accepted_forecast s.line (leftovers m s method)) refused_forecast (with_refusal_alike room)
          (λ z. rw (alike.sets (read_passed m f _ _ z)) (ap (accepted_forecast v) (sym (leftovers_unseen m method _ _))))

      pub output_with_alike : (before : List ℤ) → forecast_with_output m f method basis p before ≡ forecast_with_output m g method basis p before
      unfolding forecast_with_output forecast_with_refusal
      output_with_alike before =
          answered_alike m f g (λ x. x) (λ s. output_from m s p method basis before) (λ _. before) (with_refusal_alike _)
          (λ z. rw (alike.sets (read_passed m f _ _ z)) (sym (output_unseen m method _ _ basis p before)))

    -- the back-test
    pub back_test_refusal_alike : (c : ℕ) → back_test_refusal m f c method basis ≡ back_test_refusal m g c method basis
    unfolding back_test_refusal cut_to
    back_test_refusal_alike c =
        call_alike alike (λ has. (6, q6 has method basis) ∷ (8, q8 m c) ∷ []) (λ s. let t = cut_to (m - c) s in of_forecast (m - c) t (delays_of (m - c) t) method)
        (λ v s. forecast_unseen (m - c) method v (cut_to (m - c) s))

    pub back_test_lines : (c v : ℕ) → test_on v (back_test_answer m f c method basis) ≡ test_on v (back_test_answer m g c method basis)
    unfolding back_test_answer back_test_refusal
    back_test_lines c v =
        answered_alike m f g (test_on v) (λ s. back_test_of m s c method basis) refused_back_test (back_test_refusal_alike c)
        (λ z. rw (alike.sets (read_passed m f _ _ z)) (sym (test_unseen m c method basis v _ _)))
