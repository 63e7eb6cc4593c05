pub mod Attributes
pub mod Files
pub mod Markup
pub mod Parts
pub mod Script
pub mod Rows
