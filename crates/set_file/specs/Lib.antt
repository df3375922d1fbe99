-- The bytes that the writer writes of a set, and laws of the set's file.
pub mod RoundTrip
pub mod SameFile
pub mod WrittenAgain
