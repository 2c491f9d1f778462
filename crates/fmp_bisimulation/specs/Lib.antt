pub mod Alike
pub mod Closed
pub mod Still
