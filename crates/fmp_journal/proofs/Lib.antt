pub mod Copying
pub mod Counts
pub mod Moves
pub mod Rows
