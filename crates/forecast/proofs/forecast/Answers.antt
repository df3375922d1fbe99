-- `forecast::forecast` meets its contract: what `forecast_into` writes, with zeros for leftovers.
-- Assumes nothing.
use Rattle.std.proofs.Common.{None}
use Rattle.model.specs.Delays.{delays_of}
use Rattle.model.specs.Questions.{of_forecast}
use Rattle.model.specs.Calls.{forecast_refusal, forecast_answer, forecast_output}
use Rattle.delays.specs.Prepared.{asks_delays}
use Rattle.set_forecast.specs.SetForecast.{of_either, either_delays}
use Rattle.forecast.specs.FileLaws.{by_value}
use Rattle.forecast.proofs.forecast.Goals as goal

pub returns : goal.returns
unfolding forecast_refusal forecast_answer forecast_output of_forecast of_either asks_delays either_delays delays_of
returns c =
    let a = c.args in
    let e = c.forecast_into-answer.ensures in
    rw c.refusal_number-refusal.ensures (record { result = by_value a.m a.file.now a.method a.basis None a.out.now (e.value, (e.leftovers_after, (e.out_after, e.near_reserves))) (rw c.refusal_number-refusal.ensures at c.store_line.ensures); output = e.out_after; reserve = e.near_reserves })
