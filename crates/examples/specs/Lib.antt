-- Examples, 01's and our own, that no must-fail edit of a definition needs: so that an edit does
-- not compute them again, they stand in a crate of their own. Agreement: where 01 says a thing
-- twice.
pub mod Sets
pub mod Forecasts
pub mod Others
pub mod Closing
pub mod Pages
pub mod Tallies
pub mod Journals
pub mod GivenDelays
pub mod Lines
pub mod Agreement
