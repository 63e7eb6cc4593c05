pub mod Calls
pub mod Functions
pub mod Known
pub mod Purity
pub mod Signs
pub mod Stains
pub mod Top
