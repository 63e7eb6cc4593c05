pub mod Values
pub mod Listeners
pub mod Slots
pub mod Blocks
pub mod States
pub mod Sources
pub mod Scene
pub mod Fresh
