pub mod Foreign
pub mod Hosting
pub mod Looking
pub mod Following
pub mod FollowingLaws
pub mod AlikeRuns
