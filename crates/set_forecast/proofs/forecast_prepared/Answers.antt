-- `set_forecast::forecast_prepared` meets its contract: the row bases, and then the cells. Assumes
-- nothing.
use Rattle.std.proofs.Common.{refl, sym, ◌∙◌}
use Rattle.model.specs.Calls.{no_set}
use Rattle.model.specs.CallsLaws.{if_refused}
use Rattle.refusals.specs.RefusalsLaws.{not_accepted, handed_on}
use Rattle.chain_ladder.specs.DevelopedLaws.{counts_ready}
use Rattle.ladder.specs.LadderLaws.{ladder_ready}
use Rattle.set_forecast.specs.SetForecast.{method_refusal}
use Rattle.set_forecast.specs.SetForecastLaws.{years_ready, years_written}
use Rattle.set_forecast.proofs.forecast_prepared.Goals as goal

pub returns-in_err-method_bases : goal.returns-in_err-method_bases
unfolding method_refusal
returns-in_err-method_bases c like =
    let e = c.in_err-method_bases.ensures like in
    rw (handed_on _ _ c.from_residual.ensures.1) (record { refusal = e.refusal; leftovers_are = e.lefts; output = sym (if_refused _ _ _ (not_accepted c.in_err-method_bases.field-0.0)) })

pub shares-shares-requires : goal.shares-shares-requires
shares-shares-requires c = let g = c.requires.0 in (ladder_ready g.counts (counts_ready g.asked.shared)).bounds

pub cell_forecast-requires-clause-ready : goal.cell_forecast-requires-clause-ready
cell_forecast-requires-clause-ready c = years_ready c.requires.0 no_set (c.in_ok-method_bases.ensures no_set) refl c.shares-shares.ensures

pub returns : goal.returns
unfolding method_refusal
returns c like =
    let made = c.in_ok-method_bases.ensures like in
    record {
      refusal = made.refusal;
      leftovers_are = made.lefts;
      output = c.cell_forecast.ensures ∙ years_written c.requires.0 like made refl c.shares-shares.ensures c.args.basis c.args.out.now;
    }
