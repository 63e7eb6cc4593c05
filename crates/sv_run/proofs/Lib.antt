pub mod Deciding
pub mod OneAnswer
pub mod Running
pub mod Testing
