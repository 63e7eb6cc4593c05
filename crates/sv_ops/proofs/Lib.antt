pub mod Between
pub mod Cutting
pub mod Rounding
pub mod Standing
pub mod Trimming
