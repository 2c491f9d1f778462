pub mod Bits
pub mod Pending
pub mod PendingLaws
pub mod Processors
