pub mod ChainLemmas
pub mod ChangeLemmas
pub mod ListLemmas
pub mod RingLemmas
pub mod LinkLemmas
