pub mod Looks
pub mod Versions
