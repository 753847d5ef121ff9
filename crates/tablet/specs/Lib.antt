pub mod Small
pub mod Tablet
pub mod Promise
