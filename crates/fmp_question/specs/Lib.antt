pub mod Beginning
pub mod Endless
pub mod Forbidden
pub mod Sites
pub mod Rules
pub mod Standing
