pub mod Exchange
pub mod FreeSlots
pub mod InputMarks
pub mod AddCell
pub mod Filling
pub mod Build
pub mod Existence
