-- Laws that rest on the bound of PaidReserve; other crates cite them.
pub mod AnyDelays
pub mod Demand3
