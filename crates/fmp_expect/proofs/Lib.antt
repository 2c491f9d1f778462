pub mod Digits
pub mod Events
pub mod Fronts
pub mod Judging
pub mod CallSentenceLemmas
pub mod Rows
pub mod Splitting
pub mod Steps
mod ReadBack
mod WrittenLines
mod WrittenNumbers
pub mod Tests
