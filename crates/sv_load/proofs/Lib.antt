pub mod Told
pub mod Finding
pub mod Reading
pub mod OneTree
pub mod OneOutcome
pub mod Named
