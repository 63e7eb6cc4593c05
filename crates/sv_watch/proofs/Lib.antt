mod Telling
pub mod Parting
mod Places
mod Edits
mod Standing
mod Turning
pub mod Mirroring
mod Numbered
