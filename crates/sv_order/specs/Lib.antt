pub mod ReactiveOrder
pub mod Points
