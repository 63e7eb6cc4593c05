pub mod Spots
pub mod Markup
pub mod Plans
mod Showing
mod Steps
mod Making
pub mod Mounting
