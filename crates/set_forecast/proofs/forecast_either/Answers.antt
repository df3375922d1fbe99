-- `set_forecast::forecast_either` meets its contract: what the methods share, and then the forecast
-- from it; and demand 3. Assumes nothing.
use Rattle.std.proofs.Common.{refl, sym, ◌∙◌, ap, Option, List, ℕ, ℤ}
use Rattle.model.specs.Cells.{output_from}
use Rattle.model.specs.Questions.{first_no}
use Rattle.model.specs.Calls.{if_accepted, no_set}
use Rattle.model.specs.CallsLaws.{if_refused}
use Rattle.model.specs.Lent.{lent_set, triangle_in}
use Rattle.model.specs.declared.TriangleSet.{TriangleSet}
use Rattle.refusals.specs.RefusalsLaws.{not_accepted, handed_on}
use Rattle.chain_ladder.specs.DevelopedLaws.{Shared}
use Rattle.delays.specs.Prepared.{PreparedFrom}
use Rattle.delays.specs.PreparedLaws.{shares_so}
use Rattle.set_forecast.specs.SetForecast.{Answered, method_refusal, of_either, either_delays, InRange}
use Rattle.set_forecast.specs.SetForecastLaws.{by_either, after_either, either_range, either_solve, either_output, lent_passed, lent_delays, lent_shared, is_given, near}
use Rattle.set_forecast.proofs.forecast_either.Goals as goal

pub returns-in_err-prepare_from-clause-fact : goal.returns-in_err-prepare_from-clause-fact
returns-in_err-prepare_from-clause-fact c like =
    let e = c.in_err-prepare_from.ensures.refusal in
    let o = not_accepted c.in_err-prepare_from.field-0.0 in
    rw (handed_on _ _ c.from_residual.ensures.1) (record {
      refusal = e ∙ sym (by_either _ (lent_set like c.args.set.now) _ _ (λ z. o (e ∙ z)));
      leftovers_are = sym (if_refused _ _ _ o);
      output = sym (if_refused _ _ _ o);
    })

-- what is prepared is given to the forecast
module _ {m : ℕ} {set : List ℤ} (given : Option (List ℤ)) {method : ℕ} {cl cg dl dg before p : List ℤ}
    (by : PreparedFrom m set given 0 cl cg dl dg before p) (ok : InRange m set method) where
  shared : Shared m (triangle_in 0 set) (triangle_in 1 set)
  shared = lent_shared by refl ok (shares_so m (triangle_in 0 set) (triangle_in 1 set) given)

  answered : (like : TriangleSet) {basis n : ℕ} {left lefts out after : List ℤ} → Answered (method_refusal m (lent_set like set) method) m (lent_set like set) p method basis n left lefts out after
      → Answered (first_no (of_either m (lent_set like set) given method)) m (lent_set like set) (either_delays m (lent_set like set) given) method basis n left lefts out after
  answered like {basis} {n} {out = out} a =
      let s = lent_set like set in
      record {
        refusal = a.refusal ∙ sym (after_either m s method given (lent_passed by refl));
        leftovers_are = a.leftovers_are;
        output =
            a.output
            ∙ ap (λ (p : List ℤ). if_accepted n (output_from m s p method basis out) out) (lent_delays by refl)
            ∙ ap (λ (x : List ℤ). if_accepted n x out) (either_output m s shared given method basis out);
      }

pub returns-clause-fact : goal.returns-clause-fact
returns-clause-fact c like = answered _ c.in_ok-prepare_from.ensures c.requires.0 like (c.forecast_prepared.ensures like)

pub returns-clause-near_reserves : goal.returns-clause-near_reserves
returns-clause-near_reserves c =
    let by = c.in_ok-prepare_from.ensures in
    let h = shared _ by c.requires.0 in
    near h (answered _ by c.requires.0 no_set (c.forecast_prepared.ensures no_set)) (λ _. either_solve _ (lent_set no_set c.args.set.now) h _ (lent_passed by refl))

pub forecast_prepared-requires : goal.forecast_prepared-requires
forecast_prepared-requires c =
    (is_given c.in_ok-prepare_from.ensures refl c.requires.0 (shares_so _ _ _ _) (either_range _ _ _ _), c.requires.1)
