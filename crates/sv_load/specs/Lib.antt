pub mod Imports
pub mod Trees
pub mod Loads
pub mod Calls
pub mod Laws
