pub mod Numbers
pub mod Compiled
pub mod Names
pub mod Parts
pub mod Within
pub mod Content
