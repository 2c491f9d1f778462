pub mod Blanks
pub mod Crossing
pub mod Drawing
pub mod Entering
pub mod Untouched
pub mod Visiting
