pub mod Hearing
pub mod Listened
pub mod Ears
pub mod Reports
pub mod Mirrored
pub mod Standing
