pub mod Keys
pub mod Runnable
pub mod Slots
pub mod Staying
