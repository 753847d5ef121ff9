pub mod Clearing
pub mod Rows
pub mod Seen
pub mod Pass
