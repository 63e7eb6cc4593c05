pub mod Courses
pub mod Onward
pub mod Listing
