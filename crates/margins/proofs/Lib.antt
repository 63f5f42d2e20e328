pub mod Bounds
pub mod Times
pub mod Rounding
