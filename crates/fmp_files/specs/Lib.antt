pub mod Deeds
pub mod Devices
pub mod Endings
pub mod Files
pub mod Messages
pub mod Outside
pub mod Prints
pub mod PrintsLaws
