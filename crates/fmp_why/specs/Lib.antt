pub mod Cycles
pub mod Histories
pub mod HistoryTables
pub mod Obstacles
pub mod Reports
pub mod Verdicts
pub mod Waits
