pub mod Advancing
pub mod Counting
pub mod Following
pub mod Joining
pub mod Starting
pub mod Working
