pub mod Calls
pub mod Compiling
pub mod Laws
pub mod Runs
pub mod Texts
pub mod Tie
