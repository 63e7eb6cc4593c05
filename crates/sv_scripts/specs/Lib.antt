pub mod Props
