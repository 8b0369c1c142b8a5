pub mod Examples
pub mod Loading
pub mod Mending
pub mod Sound
