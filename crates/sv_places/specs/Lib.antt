pub mod Any
pub mod Numbers
pub mod Fits
pub mod Keeping
