pub mod Scopes
pub mod Agreeing
pub mod Standing
pub mod Onward
pub mod Seeing
pub mod Drawing
pub mod Holding
