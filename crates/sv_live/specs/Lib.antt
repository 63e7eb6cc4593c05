pub mod Attributes
pub mod Shown
pub mod Known
pub mod Kept
pub mod Stands
pub mod Walk
