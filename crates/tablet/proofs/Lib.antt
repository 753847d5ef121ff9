pub mod SmallFiles
mod Orders
mod Runs
mod TimesBytes
mod Answers
pub mod Promises
