pub mod Happenings
pub mod Conditions
pub mod Meaning
pub mod Standings
pub mod Monitors
