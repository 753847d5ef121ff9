pub mod Row
pub mod Pass
pub mod View
pub mod Clear
