pub mod Root
pub mod Sides
