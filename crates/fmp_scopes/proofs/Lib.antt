mod ChainTrees
mod Checking
mod EarlierNames
mod Entering
mod FirstPlaces
pub mod Headed
pub mod KnownNames
pub mod LeastDepths
pub mod LocalMeanings
pub mod Loops
pub mod Positions
mod RowNumbers
pub mod Sums
pub mod ViewTrees
