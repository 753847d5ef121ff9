mod TwoBoards
mod Rounds
mod Calls
mod Rings
pub mod Promises
