pub mod Appended
pub mod Plain
