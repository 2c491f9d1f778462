pub mod Again
pub mod BoardFaults
pub mod Headline
pub mod JournalLemmas
pub mod OutletLemmas
pub mod PlayLemmas
pub mod SimulationLemmas
pub mod StepLemmas
