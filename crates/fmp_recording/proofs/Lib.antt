pub mod Fronts
pub mod Decimals
pub mod Padding
pub mod LineByLine
pub mod CallTables
pub mod RoundTrip
pub mod Unrefused
pub mod Replays
