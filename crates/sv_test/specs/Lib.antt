pub mod Tested
pub mod PlaysTo
