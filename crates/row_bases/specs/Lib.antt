-- Bases: a year's row base and leftover, from its numbers. Method: those of a set under a method,
-- questions 13 and 14.
pub mod Bases
pub mod BasesLaws
pub mod Method
pub mod MethodLaws
