-- A set that questions 1 and 5 accept, its sums, its chain ladder, and the laws of both.
pub mod Valid
pub mod Developed
pub mod DevelopedLaws
pub mod Accepted
pub mod SharesCall
