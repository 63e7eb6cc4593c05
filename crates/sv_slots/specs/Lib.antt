pub mod Children
pub mod Sheets
pub mod Props
pub mod Slots
pub mod Binds
