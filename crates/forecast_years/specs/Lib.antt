-- Laws of the forecast years of a valuation date (02, Job 5).
pub mod YearsLaws
