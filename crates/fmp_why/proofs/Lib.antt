pub mod CycleLemmas
pub mod HistoryLemmas
pub mod ReportLemmas
pub mod SpinLaws
