pub mod Does
pub mod Tops
pub mod Places
pub mod Words
pub mod Inside
pub mod Lower
pub mod Frames
