pub mod Asked
pub mod Bodies
pub mod Doing
pub mod Endings
pub mod FirstFindings
pub mod Grammar
pub mod Idle
pub mod ImageSites
pub mod Printing
pub mod SameKinds
pub mod Saying
pub mod SeenLists
pub mod ShownLemmas
pub mod StepsNames
pub mod StuckLemmas
pub mod UnsaidLists
mod Worded
mod FindingTexts
mod PlainClaims
mod PrintedNevers
mod TextCalls
