pub mod Going
pub mod Weights
pub mod Planning
