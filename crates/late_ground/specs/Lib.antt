pub mod LateGround
pub mod Promise
