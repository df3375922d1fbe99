-- Solved: what the solver hands back. DelaysLaws: the triangular system of the definitions.
pub mod DelaysLaws
pub mod Solved
pub mod SolvedLaws
