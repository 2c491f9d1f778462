pub mod Begun
pub mod Judgements
pub mod Steps
