pub mod Built
pub mod Impure
