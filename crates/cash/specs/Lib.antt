-- Laws of cash by dates (02, Job 5): windows, and the call's contract; examples.
pub mod CashCall
pub mod Windows
pub mod CashExamples
