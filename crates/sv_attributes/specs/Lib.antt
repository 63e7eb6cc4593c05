pub mod Each
pub mod Values
pub mod Words
pub mod Attr
pub mod Class
pub mod Attributes
pub mod Typed
