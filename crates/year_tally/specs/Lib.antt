-- The tally with a cell added, and when a sum of two signed 64-bit numbers is one.
pub mod TallyAdd
pub mod TallyAddLaws
