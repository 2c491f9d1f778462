mod FormRules
pub mod GivenWords
pub mod Lines
pub mod Members
pub mod More
