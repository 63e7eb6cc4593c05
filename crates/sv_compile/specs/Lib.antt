pub mod Runs
pub mod Constants
pub mod TopLevel
pub mod Holders
pub mod Sheet
pub mod Modules
pub mod Compile
pub mod Laws
