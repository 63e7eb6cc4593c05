pub mod Names
pub mod Loops
pub mod Same
pub mod Append
pub mod Entries
