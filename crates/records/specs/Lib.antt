-- One record of a file, its bytes and its cell; folds over all of them.
pub mod Folds
pub mod OneRecord
pub mod Bytes
pub mod Places
