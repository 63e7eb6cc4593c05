pub mod First
pub mod Renders
