pub mod EndlessLemmas
pub mod ForbiddenLemmas
pub mod SiteLemmas
pub mod QueueLemmas
pub mod StandLemmas
