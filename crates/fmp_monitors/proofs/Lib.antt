pub mod Absent
pub mod AlikeLaws
pub mod ConditionLaws
pub mod EmptyLaws
pub mod MonitorLaws
pub mod TimelessLaws
