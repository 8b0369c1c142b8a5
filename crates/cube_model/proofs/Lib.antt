pub mod Ascending
pub mod Products
pub mod Totals
