pub mod Exports
pub mod Held
pub mod Lines
pub mod Names
pub mod Recorded
pub mod Records
pub mod Services
