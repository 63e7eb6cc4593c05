pub mod Imports
pub mod Cycles
pub mod Table
pub mod Given
pub mod Language
pub mod Unknown
