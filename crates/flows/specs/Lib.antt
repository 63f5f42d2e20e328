pub mod Flows
pub mod Sides
