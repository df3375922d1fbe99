-- Laws of runs of digits, and that the first line's numbers read back.
pub mod Runs
pub mod ReadBack
