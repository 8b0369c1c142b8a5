pub mod Additive
pub mod Choices
pub mod Examples
pub mod Law
pub mod Limits
pub mod Placed
pub mod Worlds
