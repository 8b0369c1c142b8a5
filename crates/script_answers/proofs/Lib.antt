pub mod Entries
pub mod Many
pub mod Measures
pub mod Placing
