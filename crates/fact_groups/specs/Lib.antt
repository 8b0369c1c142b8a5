pub mod Changes
pub mod Edits
pub mod Examples
pub mod Groups
pub mod Partition
pub mod Refreshed
