pub mod Writing
pub mod Telling
pub mod Showing
pub mod Course
