-- The laws of the rounding, of signed words and of sums that run, and the definitions that the
-- contracts cite.
pub mod RoundingLaws
pub mod Steps
pub mod Signed
pub mod Words
pub mod Running
pub mod Truncated
