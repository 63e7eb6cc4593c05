pub mod Items
pub mod Pairs
pub mod Search
pub mod Maps
