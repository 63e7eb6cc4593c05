pub mod Views
pub mod Alike
pub mod Drawing
