pub mod Doing
pub mod Edits
pub mod Examples
pub mod Numbers
pub mod Space
pub mod Summary
