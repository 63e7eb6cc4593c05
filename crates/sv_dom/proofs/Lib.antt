pub mod Telling
pub mod Making
pub mod Relocation
pub mod Removal
pub mod NodeKinds
pub mod Starting
pub mod Numbering
pub mod Printing
