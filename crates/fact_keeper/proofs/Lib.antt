pub mod Places
pub mod Puts
pub mod Staying
pub mod Found
pub mod Names
