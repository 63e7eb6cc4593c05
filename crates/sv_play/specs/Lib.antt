pub mod Words
pub mod Lines
pub mod Refused
pub mod Run
pub mod Session
pub mod Summary
pub mod Sums
