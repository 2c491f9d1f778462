pub mod Bits
pub mod ReadyLaws
pub mod ReadyLists
