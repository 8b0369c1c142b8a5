pub mod Draft
pub mod Examples
pub mod Fault
pub mod Growth
pub mod Kept
pub mod Schema
pub mod SchemaText
