mod Arms
mod BreakLemmas
pub mod Emitted
pub mod Lengths
