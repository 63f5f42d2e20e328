pub mod Loads
pub mod Shape
