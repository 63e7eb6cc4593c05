pub mod Hiding
pub mod Numbered
pub mod Scoped
