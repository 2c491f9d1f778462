pub mod Driving
pub mod NextRuns
pub mod Plans
