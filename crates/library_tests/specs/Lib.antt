pub mod Few
pub mod Noted
pub mod Small
