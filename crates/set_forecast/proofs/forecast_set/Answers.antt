-- `set_forecast::forecast_set` meets its contract: `forecast_either` with the delays solved here.
-- Assumes nothing.
use Rattle.model.specs.Delays.{delays_of}
use Rattle.model.specs.Questions.{of_forecast}
use Rattle.delays.specs.Prepared.{asks_delays}
use Rattle.set_forecast.specs.SetForecast.{set_refusal, of_either, either_delays}
use Rattle.set_forecast.proofs.forecast_set.Goals as goal

pub returns : goal.returns
unfolding set_refusal of_forecast of_either asks_delays either_delays delays_of
returns c = c.forecast_either.ensures
