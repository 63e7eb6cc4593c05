pub mod Parsers
pub mod Items
pub mod Streams
pub mod Spelled
pub mod Taken
pub mod Steps
pub mod StreamLaws
