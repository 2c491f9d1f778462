pub mod WaitLaws
pub mod WaitLists
