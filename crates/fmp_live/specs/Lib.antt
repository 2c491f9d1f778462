pub mod Fits
pub mod LiveLocals
pub mod Zeroed
