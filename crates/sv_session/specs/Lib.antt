pub mod Errors
pub mod Reached
pub mod Plays
pub mod Ready
