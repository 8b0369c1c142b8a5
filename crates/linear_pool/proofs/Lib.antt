pub mod Columns
pub mod Outcomes
