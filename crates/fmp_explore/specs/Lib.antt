pub mod After
pub mod Noted
pub mod Searching
pub mod Slices
pub mod States
pub mod Stretching
