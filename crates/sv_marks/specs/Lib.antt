pub mod Marks
pub mod Lines
