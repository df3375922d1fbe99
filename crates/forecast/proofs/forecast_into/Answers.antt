-- `forecast::forecast_into` meets its contract: `forecast_file` with the delays solved here.
-- Assumes nothing.
use Rattle.model.specs.Delays.{delays_of}
use Rattle.model.specs.Questions.{of_forecast}
use Rattle.model.specs.Calls.{forecast_refusal, forecast_answer, forecast_output}
use Rattle.delays.specs.Prepared.{asks_delays}
use Rattle.set_forecast.specs.SetForecast.{of_either, either_delays}
use Rattle.forecast.proofs.forecast_into.Goals as goal

pub returns : goal.returns
unfolding forecast_refusal forecast_answer forecast_output of_forecast of_either asks_delays either_delays delays_of
returns c =
    let w = c.forecast_file.ensures in
    record { value = w.0; leftovers_after = w.1.0; out_after = w.1.1.0; near_reserves = w.1.1.1 }
