pub mod Nodes
pub mod Sound
pub mod Steps
pub mod Moves
pub mod Cells
pub mod Made
pub mod Numbers
