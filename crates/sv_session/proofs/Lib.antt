pub mod First
pub mod Mounting
pub mod Reaching
pub mod Going
