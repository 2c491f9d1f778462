pub mod Appended
pub mod Blocks
pub mod Exports
pub mod Passed
pub mod Places
pub mod Views
