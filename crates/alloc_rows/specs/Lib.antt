pub mod Alloc
pub mod Changed
pub mod Examples
pub mod Rows
