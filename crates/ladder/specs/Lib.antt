-- A triangle's sums, the chain ladder from them, and the laws of both.
pub mod SharesLaws
pub mod Sums
pub mod SumsLaws
pub mod Ladder
pub mod LadderLaws
pub mod UltimatesLaws
