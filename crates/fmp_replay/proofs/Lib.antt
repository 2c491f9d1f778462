pub mod Entries
pub mod Replaying
