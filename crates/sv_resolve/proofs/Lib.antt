pub mod Offers
pub mod Tables
