pub mod BreachLemmas
pub mod Following
pub mod LastLemmas
pub mod LineLemmas
pub mod OverLemmas
pub mod SeenThere
pub mod StepLemmas
