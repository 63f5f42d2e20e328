pub mod Counts
pub mod Places
pub mod Rows
pub mod Counting
pub mod Judgement
