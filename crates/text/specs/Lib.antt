-- Laws of decimal text: how it is written, how long it is, and that it reads back.
pub mod Bytes
pub mod Written
pub mod Digits
pub mod Amount
