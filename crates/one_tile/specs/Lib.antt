pub mod Rounds
pub mod Promise
