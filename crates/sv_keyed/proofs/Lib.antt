pub mod Times
pub mod Order
pub mod Repeats
pub mod Walking
pub mod Marking
pub mod Placed
