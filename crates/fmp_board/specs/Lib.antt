pub mod Boards
pub mod Messages
pub mod Outcomes
pub mod Sites
pub mod Visits
