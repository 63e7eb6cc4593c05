pub mod Distinct
pub mod Uses
pub mod Locals
pub mod NameMap
