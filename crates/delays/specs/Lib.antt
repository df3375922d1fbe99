-- What the cells need under every method, and the calls.
pub mod Prepared
pub mod PreparedLaws
