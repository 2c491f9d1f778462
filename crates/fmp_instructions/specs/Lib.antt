pub mod Instructions
pub mod Longer
pub mod Machine
pub mod Registers
pub mod Resuming
pub mod Standing
pub mod Verify
