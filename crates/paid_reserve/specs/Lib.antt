-- Demand 3 in layers. ExactShares: rounded against unrounded shares. YearSum: a year's cells, for
-- any row base and any delays that solve the system. PaidReserve, and AnyDelays of proofs/: the
-- distance to the reserve, for any such delays. Demand3, here and of proofs/: of every set that
-- passes the questions, as its forecast is written.
pub mod ExactShares
pub mod YearSum
pub mod PaidReserve
pub mod Demand3
