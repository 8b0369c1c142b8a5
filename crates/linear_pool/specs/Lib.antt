pub mod Examples
pub mod Pool
