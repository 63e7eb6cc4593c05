pub mod Form
pub mod Wish
pub mod StepsFile
