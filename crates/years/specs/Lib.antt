-- WeightsLaws: the weights of a year. Ready: what the writing of the years asks.
pub mod WeightsLaws
pub mod YearsLaws
pub mod Ready
pub mod ReadyLaws
