pub mod Compiled
pub mod Each
