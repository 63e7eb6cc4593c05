pub mod Naming
pub mod Steps
pub mod Trees
pub mod Wording
pub mod Forms
pub mod Keeping
pub mod Lowering
pub mod Loops
