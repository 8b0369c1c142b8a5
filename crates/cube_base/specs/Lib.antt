pub mod Code
pub mod InPlace
pub mod MemoryIo
pub mod Name
pub mod Outside
pub mod Search
pub mod SharedList
pub mod StandardIo
