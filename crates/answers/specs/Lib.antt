pub mod Numbers
pub mod Limits
pub mod Answers
pub mod Lowest
pub mod Listed
pub mod Sums
pub mod Buffers
