-- Weights: what the cells ask of weights and delays. CellOf: a cell, the entries of a year and of
-- several years.
pub mod Weights
pub mod PairLaws
pub mod CellOf
pub mod SumsFromLaws
pub mod EntryLaws
pub mod SmallLaws
