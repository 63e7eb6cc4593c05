pub mod Asked
pub mod Child
pub mod Dress
pub mod Root
