pub mod Cell
pub mod Local
pub mod Constants
pub mod Level
pub mod View
