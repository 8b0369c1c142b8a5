pub mod Examples
pub mod Fault
pub mod Nodes
pub mod Outline
pub mod Places
