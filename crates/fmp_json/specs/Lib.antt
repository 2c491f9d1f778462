pub mod Junit
pub mod Members
pub mod Xml
