pub mod Keys
pub mod Steps
pub mod Marks
pub mod Places
pub mod Walk
