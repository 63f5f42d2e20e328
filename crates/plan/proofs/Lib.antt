pub mod TextRead
pub mod RowRoom
