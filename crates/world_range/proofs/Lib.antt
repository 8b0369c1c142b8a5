pub mod Bounds
pub mod Parts
pub mod Reached
pub mod Reaching
