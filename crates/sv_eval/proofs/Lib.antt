pub mod Exits
pub mod Forms
pub mod Measure
pub mod Parts
pub mod Steps
pub mod Computing
