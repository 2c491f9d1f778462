pub mod Building
pub mod Entries
pub mod Laws
