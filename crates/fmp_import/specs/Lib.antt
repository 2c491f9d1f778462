pub mod Written
pub mod Constants
pub mod Values
pub mod Imports
pub mod Words
