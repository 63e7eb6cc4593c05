pub mod Slots
pub mod Slotting
