pub mod Built
pub mod Counts
pub mod Hosting
pub mod Messages
pub mod Outlets
pub mod Plays
pub mod Simulations
