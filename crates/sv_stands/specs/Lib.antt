pub mod Holds
pub mod Lent
pub mod Standing
