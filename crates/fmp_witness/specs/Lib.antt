pub mod Asked
pub mod Calls
pub mod Findings
pub mod Followed
