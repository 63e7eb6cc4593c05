pub mod Kin
pub mod Pending
pub mod Owners
pub mod Numbers
pub mod Family
