pub mod Kinds
pub mod Generated
pub mod Answer
pub mod Beside
pub mod Causes
pub mod Run
pub mod Job
