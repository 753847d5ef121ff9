pub mod Bytes
pub mod Runs
pub mod File
pub mod Turns
pub mod Calls
pub mod Promise
pub mod StartRecords
pub mod Inner
