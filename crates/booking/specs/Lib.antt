-- A transaction whose fields are good.
pub mod Good
pub mod Fields
