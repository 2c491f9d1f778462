pub mod Rotated
