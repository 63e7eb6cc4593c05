mod Facts
mod Patches
mod Creating
pub mod Slots
pub mod Pages
