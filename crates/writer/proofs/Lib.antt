pub mod Words
pub mod Chained
pub mod FileBytes
pub mod WrittenLaws
