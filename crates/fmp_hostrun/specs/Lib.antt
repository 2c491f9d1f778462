pub mod Counts
pub mod Followers
pub mod Works
