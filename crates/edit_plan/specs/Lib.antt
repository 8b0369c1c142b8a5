pub mod Bound
pub mod Plan
pub mod Refreshing
pub mod Whole
