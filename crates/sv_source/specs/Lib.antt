pub mod Open
pub mod Functions
pub mod Script
pub mod Tops
pub mod Programs
pub mod Laws
