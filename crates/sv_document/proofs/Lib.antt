pub mod Laid
pub mod Numbering
