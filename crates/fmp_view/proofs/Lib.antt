pub mod BegunDeeds
mod CommandLemmas
mod Endings
mod FormLemmas
pub mod HostDeeds
mod MadeEnds
mod Parted
pub mod Projects
mod RunEnds
pub mod SessionLemmas
mod SettingsLemmas
pub mod TargetLemmas
mod UnusedWords
