pub mod Names
pub mod Lines
pub mod Configuration
pub mod Declarations
pub mod Files
