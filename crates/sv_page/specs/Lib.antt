pub mod Turns
pub mod Run
pub mod Current
