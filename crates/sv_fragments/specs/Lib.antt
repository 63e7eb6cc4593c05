pub mod Builds
pub mod Expressions
pub mod Attributes
pub mod Content
pub mod Tags
pub mod Frags
pub mod Around
pub mod Pieces
