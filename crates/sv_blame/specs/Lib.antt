pub mod Signs
pub mod Stands
pub mod LeftOut
pub mod Places
pub mod Blame
