-- Laws of the claims journal.
pub mod Turns
pub mod ByCell
pub mod Replays
pub mod JournalSet
pub mod Reported
