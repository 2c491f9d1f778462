pub mod Chains
pub mod LinkedLaws
pub mod OrderLaws
pub mod Orders
pub mod PlaceLaws
pub mod Places
pub mod RingLists
pub mod WalkLaws
