-- Laws of the calendar-year tally of a forecast's output: it is the plain sum of each year, and its
-- numbers fit 64 bits.
pub mod YearSums
pub mod YearRows
pub mod Printable
