pub mod Replied
pub mod Rule
