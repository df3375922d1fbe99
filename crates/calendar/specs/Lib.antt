-- Laws of the text that `closing` prints for an input.
pub mod Cut
pub mod Respond
