pub mod DriveLemmas
pub mod PlanLemmas
pub mod TurnLemmas
