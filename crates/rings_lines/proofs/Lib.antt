mod Stores
mod Texts
pub mod Decimal
mod Rows
mod Answers
mod Example
