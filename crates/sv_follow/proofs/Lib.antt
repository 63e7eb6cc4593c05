pub mod Outlined
pub mod Wanted
pub mod Printing
pub mod Following
pub mod Worn
pub mod Keeping
pub mod Clearing
pub mod Numbering
