-- The gaps of a back-test's cells, their sums, and the laws of both.
pub mod Gaps
pub mod GapsLaws
pub mod ErrorsLaws
