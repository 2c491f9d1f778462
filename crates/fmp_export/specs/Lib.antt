pub mod Words
pub mod Sources
pub mod Remarks
pub mod Pieces
pub mod Expressions
pub mod Statements
pub mod Bodies
pub mod Files
