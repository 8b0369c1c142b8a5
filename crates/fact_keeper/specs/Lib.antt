pub mod Batch
pub mod Examples
pub mod Keeper
pub mod MemKeeper
pub mod Order
