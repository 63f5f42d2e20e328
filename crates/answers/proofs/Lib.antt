pub mod Lowest
pub mod Listed
pub mod Sums
pub mod Ranges
pub mod First
pub mod Orders
pub mod Buffers
pub mod Outcomes
