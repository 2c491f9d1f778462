pub mod Fronts
pub mod ListedStates
pub mod Messages
pub mod Rooms
pub mod Steps
pub mod StepsLaws
