mod BranchLemmas
mod CallLaws
pub mod CoveredLines
pub mod Failed
pub mod Fresh
mod HeardLemmas
pub mod ImageSites
mod LapLemmas
mod MarkLemmas
mod MetLemmas
mod NameLemmas
mod PartLemmas
mod SeenLemmas
mod TestAnswers
pub mod TestEnds
mod TestImages
mod TrialRuns
mod WayLemmas
mod WordLemmas
mod WrittenLemmas
