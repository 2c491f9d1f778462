mod CommandLaws
pub mod Digits
pub mod Following
mod SpinLaws
pub mod Taking
