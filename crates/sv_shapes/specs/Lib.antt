pub mod Shapes
pub mod Places
pub mod Typed
pub mod Showing
