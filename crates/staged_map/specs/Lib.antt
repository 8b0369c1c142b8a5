pub mod Hints
pub mod Lends
pub mod Staged
