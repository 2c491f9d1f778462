pub mod Answers
pub mod Commands
pub mod Sessions
pub mod Taking
pub mod Tellings
