pub mod Chains
pub mod True
pub mod Fresh
