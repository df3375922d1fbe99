-- Laws of dates (02, Job 5), and examples.
pub mod DatesLaws
pub mod DatesExamples
