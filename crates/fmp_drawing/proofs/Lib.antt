mod Closed
mod Marks
mod Products
mod Stacks
