pub mod ClockLaws
pub mod Ranks
pub mod Slots
pub mod Times
