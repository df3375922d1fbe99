-- `forecast::forecast_with_delays` meets its contract: what `forecast_with_delays_into` writes,
-- with zeros for leftovers. Assumes nothing.
use Rattle.std.proofs.Common.{Some}
use Rattle.model.specs.Questions.{of_forecast_with}
use Rattle.model.specs.Calls.{forecast_with_refusal, forecast_with_answer, forecast_with_output}
use Rattle.delays.specs.Prepared.{asks_delays}
use Rattle.set_forecast.specs.SetForecast.{of_either, either_delays}
use Rattle.forecast.specs.FileLaws.{by_value}
use Rattle.forecast.proofs.forecast_with_delays.Goals as goal

pub returns : goal.returns
unfolding forecast_with_refusal forecast_with_answer forecast_with_output of_forecast_with of_either asks_delays either_delays
returns c =
    let a = c.args in
    let e = c.forecast_with_delays_into-answer.ensures in
    rw c.refusal_number-refusal.ensures (record { result = by_value a.m a.file.now a.method a.basis (Some a.delays.now) a.out.now (e.value, (e.leftovers_after, (e.out_after, e.near_reserves))) (rw c.refusal_number-refusal.ensures at c.store_line.ensures); output = e.out_after; reserve = e.near_reserves })
