pub mod Frequent
pub mod Rows
pub mod Short
pub mod Steps
pub mod Taken
pub mod Restarted
