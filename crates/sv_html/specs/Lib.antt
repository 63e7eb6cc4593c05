pub mod Html
pub mod Tag
