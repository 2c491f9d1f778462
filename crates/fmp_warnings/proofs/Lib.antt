pub mod FurtherFaults
mod Marks
mod ShownAt
mod Warned
