pub mod Snapshots
pub mod Views
pub mod Settling
pub mod Computed
pub mod Constants
