-- Laws that other crates cite.
pub mod YearsApart
