pub mod Further
pub mod Marks
pub mod Unreached
pub mod Verdicts
pub mod Warned
pub mod Warnings
