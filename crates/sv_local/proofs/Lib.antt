pub mod Outcomes
pub mod Lists
pub mod Names
pub mod Pieces
pub mod Values
pub mod Statements
pub mod Functions
pub mod Parts
