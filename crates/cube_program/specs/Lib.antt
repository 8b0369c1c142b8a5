pub mod Counted
pub mod LastLook
pub mod Ran
