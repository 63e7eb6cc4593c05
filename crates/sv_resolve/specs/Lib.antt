pub mod Cells
pub mod Earliest
pub mod Mistakes
pub mod Places
