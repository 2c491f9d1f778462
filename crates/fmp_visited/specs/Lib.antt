pub mod Kept
pub mod Links
pub mod Rows
pub mod Seen
pub mod Slots
