pub mod Holders
pub mod Apart
pub mod Subscribed
