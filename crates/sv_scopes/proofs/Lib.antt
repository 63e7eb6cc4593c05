pub mod Hiding
pub mod Leaving
pub mod Loops
pub mod Scoping
pub mod Tags
pub mod LocalNames
