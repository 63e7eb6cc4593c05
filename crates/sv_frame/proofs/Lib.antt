pub mod Outcomes
pub mod Deriving
pub mod Stepping
pub mod Calls
pub mod Values
pub mod Statements
pub mod Running
pub mod Altering
pub mod Leaving
mod Lasting
pub mod Settling
pub mod Stored
pub mod Computing
pub mod Staying
