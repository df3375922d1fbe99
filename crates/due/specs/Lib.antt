-- Laws of the amount due before a day (02, Job 5).
pub mod DueLaws
