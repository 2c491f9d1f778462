pub mod ContextLemmas
pub mod HeldLemmas
pub mod RangeLemmas
pub mod RestoreLemmas
