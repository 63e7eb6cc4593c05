pub mod Words
pub mod Attributes
pub mod Sites
pub mod Hidden
