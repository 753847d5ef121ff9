pub mod Flaws
pub mod Judge
