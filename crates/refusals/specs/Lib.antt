-- The questions' numbers, and their laws.
pub mod Refusals
pub mod RefusalsLaws
