pub mod Following
pub mod Judging
pub mod AnyStretch
pub mod Journals
pub mod SameCalls
pub mod GivenPlaces
pub mod AlikeRuns
