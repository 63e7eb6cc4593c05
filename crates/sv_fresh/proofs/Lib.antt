pub mod Drawing
pub mod Weights
