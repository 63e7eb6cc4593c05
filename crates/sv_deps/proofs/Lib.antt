pub mod Onward
pub mod Counting
