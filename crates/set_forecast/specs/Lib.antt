-- The forecast of a set, and of what is prepared of it.
pub mod SetForecast
pub mod SetForecastLaws
