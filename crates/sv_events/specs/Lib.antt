pub mod Members
pub mod Target
pub mod Form
pub mod EventsFile
pub mod Shape
