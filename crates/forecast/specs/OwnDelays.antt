-- Delays solved here and handed in as given: of a file that `delays` accepts, the first m places of
-- its answer pass question 20, and the forecast with them is the forecast. Assumes nothing.
use Rattle.std.specs.Prelude.{◌≡◌, Bool, true, ℕ, ◌≤◌, ℤ, pos, length, take}
use Rattle.std.proofs.Math.Path.{refl, ap}
use Rattle.std.proofs.Common.{sym, ◌∙◌}
use mathlib.Core.List.{List, [], ◌∷◌, ◌++◌}
use Rattle.std.proofs.Math.Seq.{get_or-take}
use Rattle.model.specs.Lists.{at}
use Rattle.model.specs.Records.{set_of, has_incurred}
use Rattle.model.specs.Shares.{b_list}
use Rattle.model.specs.Delays.{delays, delays_of}
use Rattle.model.proofs.SameDelays.{same_output}
use Rattle.model.specs.Questions.{Question, q6, q7, q12, q20, first_no, of_records, of_file, of_shares, of_delays, of_given_delays, of_method, of_forecast, of_forecast_with}
use Rattle.model.specs.QuestionsLaws.{numbered, passed_over}
use Rattle.model.specs.Calls.{if_accepted, call_refusal, read_refusal, delays_refusal, delays_answer, check_delays_refusal, forecast_refusal, forecast_answer, forecast_output, forecast_with_refusal, forecast_with_answer, forecast_with_output}
use Rattle.model.specs.CallsLaws.{all_passed}
use Rattle.model.specs.declared.TriangleSet.{TriangleSet}
use Rattle.chain_ladder.specs.Accepted.{valid_set}
use Rattle.chain_ladder.specs.DevelopedLaws.{Shared, shared_set}
use Rattle.solver.specs.DelaysLaws.{length_delays, own_accepted}
use Rattle.delays.specs.Prepared.{prepared_refusal}
use Rattle.delays.specs.PreparedLaws.{prepared_so}
use Rattle.paid_reserve.specs.Demand3.{own_solve}

module _ (m : ℕ) (f : List ℕ) (accepted : delays_refusal m f ≡ 0) where
  abbrev s : TriangleSet
  s = set_of m f

  passed : (read_refusal m f ≡ 0) × (prepared_refusal m s.counts s.paid ≡ 0)
  unfolding delays_refusal delays_of prepared_refusal numbered
  passed = let a = all_passed m f [] (of_shares m s.counts s.paid ++ of_delays m (delays_of m s)) refl accepted in (a.0, a.2)

  twelve : q12 m (delays_of m s) ≡ true
  unfolding delays_of
  twelve = (prepared_so m s.counts s.paid passed.1).1

  shared : Shared m s.counts s.paid
  shared = shared_set m s (valid_set m f passed.0) (prepared_so m s.counts s.paid passed.1).0

  -- the first m places of the answer
  pub own : List ℤ
  own = take m (delays_answer m f).p

  own_is : own ≡ take m (delays_of m s)
  unfolding own delays_answer
  own_is = rw accepted

  enough : m ≤ length (delays_of m s)
  unfolding delays_of delays
  enough = rw (length_delays (b_list m s.counts) (b_list m s.paid) m) shared.counts.small.few

  twenty : q20 m (b_list m s.counts) (b_list m s.paid) own ≡ true
  twenty = rw own_is (own_accepted m (b_list m s.counts) (b_list m s.paid) (delays_of m s) enough twelve (own_solve m s shared))

  -- both questions get a yes: what follows is the same
  same_no : (xs ys : List Question) → first_no (xs ++ ((20, q20 m (b_list m s.counts) (b_list m s.paid) own) ∷ ys)) ≡ first_no (xs ++ ((12, q12 m (delays_of m s)) ∷ ys))
  same_no xs ys =
      ap (λ (t : Bool). first_no (xs ++ ((20, t) ∷ ys))) twenty ∙ passed_over xs ys 20 12 ∙ ap (λ (t : Bool). first_no (xs ++ ((12, t) ∷ ys))) (sym twelve)

  pub own_checked : check_delays_refusal m f own ≡ 0
  unfolding check_delays_refusal delays_refusal call_refusal of_given_delays of_delays of_file of_records of_shares
  own_checked = same_no (of_file m f ++ of_shares m s.counts s.paid) [] ∙ accepted

  module _ (method basis : ℕ) where
    refusal_same : (room : ℕ) → forecast_with_refusal m f method basis own room ≡ forecast_refusal m f method basis room
    unfolding forecast_with_refusal forecast_refusal call_refusal of_forecast_with of_forecast of_given_delays of_delays of_file of_records of_shares
    refusal_same room = same_no (of_file m f ++ ((6, q6 (has_incurred m f) method basis) ∷ (7, q7 m room) ∷ of_shares m s.counts s.paid)) (of_method m s method)

    -- refusal and leftovers
    pub own_answer : (room : ℕ) → forecast_with_answer m f method basis own room ≡ forecast_answer m f method basis room
    unfolding forecast_with_answer forecast_answer
    own_answer room = rw (refusal_same room)

    -- the output
    pub own_output : (before : List ℤ) → forecast_with_output m f method basis own before ≡ forecast_output m f method basis before
    unfolding forecast_with_output forecast_output
    own_output before =
        rw (refusal_same (length before))
        (ap (λ (out : List ℤ). if_accepted (forecast_refusal m f method basis (length before)) out before)
        (same_output m own (delays_of m s) (λ k h. ap (λ (p : List ℤ). at p k) own_is ∙ get_or-take m (delays_of m s) k (pos 0) h) s method basis before))
