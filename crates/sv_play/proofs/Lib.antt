pub mod Playing
pub mod Summing
pub mod Ready
