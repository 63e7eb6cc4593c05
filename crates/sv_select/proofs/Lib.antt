pub mod Cutting
pub mod Ascii
pub mod Exits
pub mod Parting
pub mod Finding
pub mod Reaching
