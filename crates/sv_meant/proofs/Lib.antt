pub mod White
pub mod Spreading
pub mod Made
pub mod Adding
pub mod Trees
pub mod Compiled
