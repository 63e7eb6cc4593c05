pub mod Keys
pub mod Telling
pub mod Json
pub mod Places
