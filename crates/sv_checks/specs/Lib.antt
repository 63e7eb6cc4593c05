pub mod Deeds
pub mod Tells
pub mod Lines
pub mod Report
