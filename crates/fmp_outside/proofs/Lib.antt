pub mod OutsideRuns
pub mod KeptPlaces
mod Histories
