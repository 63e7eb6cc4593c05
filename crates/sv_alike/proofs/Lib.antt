pub mod Modules
pub mod Present
pub mod Throughout
