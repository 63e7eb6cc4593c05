pub mod Calling
pub mod First
pub mod Hiding
