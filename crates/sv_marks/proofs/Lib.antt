pub mod Lines
pub mod Searching
pub mod Weights
pub mod Forms
pub mod Markup
pub mod Whole
pub mod Runs
