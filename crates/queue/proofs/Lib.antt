pub mod Children
pub mod Filling
pub mod Heap
pub mod Mending
pub mod Pigeons
pub mod Putting
pub mod Seating
pub mod Parts
