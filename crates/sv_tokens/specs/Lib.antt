pub mod Counting
pub mod Token
pub mod Edit
pub mod Seen
pub mod Replay
pub mod Numbering
