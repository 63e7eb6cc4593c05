pub mod TwoSteps
pub mod Placing
pub mod Circles
pub mod Naming
pub mod Laws
pub mod Tabling
pub mod Setting
pub mod Linking
