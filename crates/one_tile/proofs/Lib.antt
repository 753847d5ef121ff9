pub mod March
pub mod LastSpan
mod Counting
pub mod Promises
