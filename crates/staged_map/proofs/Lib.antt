pub mod Changes
pub mod Entries
pub mod Held
pub mod Listing
pub mod Noting
pub mod Places
pub mod Taking
