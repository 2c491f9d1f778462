pub mod Attempts
pub mod Besides
pub mod Choosing
pub mod Drawn
pub mod Parts
pub mod States
pub mod Taken
mod AlongLaws
mod SeedLaws
mod StateLaws
