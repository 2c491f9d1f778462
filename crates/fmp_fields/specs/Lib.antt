pub mod FieldNumbers
pub mod Fields
pub mod Listing
pub mod Pieces
pub mod Reading
