pub mod Claims
pub mod Succeeds
pub mod Right
pub mod Later
pub mod Given
pub mod Fits
pub mod Staying
pub mod Drawing
