pub mod DepthLemmas
pub mod HeapLemmas
pub mod HeldLemmas
pub mod LeastLemmas
pub mod QueueLemmas
pub mod RankLemmas
pub mod SlotLemmas
