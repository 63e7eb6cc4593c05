pub mod Content
pub mod Slots
pub mod Blocks
pub mod Lists
pub mod Rows
pub mod Plan
pub mod Patch
