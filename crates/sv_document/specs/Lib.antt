pub mod Listener
pub mod Element
pub mod Shown
pub mod Marks
pub mod Numbers
pub mod Printed
pub mod Target
pub mod Laws
