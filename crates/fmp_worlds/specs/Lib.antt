pub mod Settled
pub mod Spins
pub mod Stamps
