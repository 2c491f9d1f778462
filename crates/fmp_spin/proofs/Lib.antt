pub mod NewLemmas
pub mod PendingLemmas
pub mod RunLemmas
