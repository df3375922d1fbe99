-- The bytes of a set's file, kind by kind and year by year. Their laws are FileBytes and
-- WrittenLaws of proofs/.
pub mod Written
