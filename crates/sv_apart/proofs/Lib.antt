pub mod Thinning
pub mod Names
pub mod Declares
pub mod Lowered
pub mod Places
pub mod Holding
pub mod Compiled
