mod ActorLemmas
mod ActorNone
mod AloneLemmas
pub mod Comings
mod CountLemmas
pub mod Crossing
mod CyclicLemmas
pub mod EventPlaces
pub mod FrontLemmas
mod GroupLemmas
mod PlaceLemmas
mod RestartLemmas
mod RestoredLemmas
mod SettleLemmas
mod SpinLemmas
mod StampLemmas
pub mod StampLists
mod StepLemmas
mod StopLemmas
mod TickLemmas
mod ViewLemmas
