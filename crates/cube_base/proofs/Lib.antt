pub mod Transfers
pub mod Names
pub mod Search
pub mod Padding
