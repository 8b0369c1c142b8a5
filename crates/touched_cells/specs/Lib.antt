pub mod Touched
pub mod Few
