-- What the calls for C take and hand back in a form of its own.
pub mod Inflations
pub mod Dates
