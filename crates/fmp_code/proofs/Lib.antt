pub mod CallsMade
pub mod DecodedBodies
pub mod Placed
pub mod PreparedCalls
pub mod Stops
mod Zeros
