pub mod Digits
pub mod Form
pub mod Reading
pub mod Plans
pub mod Lines
