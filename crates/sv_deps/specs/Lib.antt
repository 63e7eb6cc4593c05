pub mod Reading
pub mod Looks
