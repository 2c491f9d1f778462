pub mod ChangeLemmas
pub mod ExactLemmas
pub mod KeptLemmas
pub mod LinkLemmas
pub mod NumberLemmas
pub mod ReadingLemmas
pub mod RowLemmas
