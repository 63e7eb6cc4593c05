pub mod Course
pub mod Telling
pub mod Creating
pub mod Flushing
pub mod Watching
pub mod WatchingPhases
pub mod WatchingPages
pub mod Told
