-- `forecast::forecast_with_delays_into` meets its contract: `forecast_file` with the delays that
-- are given. Assumes nothing.
use Rattle.model.specs.Questions.{of_forecast_with}
use Rattle.model.specs.Calls.{forecast_with_refusal, forecast_with_answer, forecast_with_output}
use Rattle.delays.specs.Prepared.{asks_delays}
use Rattle.set_forecast.specs.SetForecast.{of_either, either_delays}
use Rattle.forecast.proofs.forecast_with_delays_into.Goals as goal

pub returns : goal.returns
unfolding forecast_with_refusal forecast_with_answer forecast_with_output of_forecast_with of_either asks_delays either_delays
returns c =
    let w = c.forecast_file.ensures in
    record { value = w.0; leftovers_after = w.1.0; out_after = w.1.1.0; near_reserves = w.1.1.1 }
