pub mod First
pub mod Pure
pub mod Scopes
