pub mod Tagging
pub mod Laying
