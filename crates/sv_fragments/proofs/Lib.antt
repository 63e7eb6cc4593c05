pub mod Natural
pub mod Kept
pub mod Nodes
pub mod Closing
pub mod Looking
pub mod Sound
pub mod Naming
