pub mod Outline
pub mod Slotted
pub mod Followed
pub mod Course
pub mod Ways
