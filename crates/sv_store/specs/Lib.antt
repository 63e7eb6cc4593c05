pub mod Stores
pub mod Kept
