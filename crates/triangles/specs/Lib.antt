-- Laws of lists, the records of a file, their order and their line, and the set that they hold.
pub mod Stores
pub mod Ranges
pub mod Order
pub mod Keys
pub mod LentLaws
pub mod ReadCells
pub mod Lines
pub mod CallsLines
pub mod CallsOrder
