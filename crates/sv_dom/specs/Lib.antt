pub mod Dom
pub mod Printed
