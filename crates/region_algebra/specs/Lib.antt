pub mod Examples
pub mod Fault
pub mod Growth
pub mod Inside
pub mod Space
pub mod Stepped
pub mod Wheels
