pub mod Turn
pub mod World
pub mod Setup
