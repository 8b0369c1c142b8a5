pub mod Anew
pub mod Counted
pub mod Grouping
pub mod Kept
pub mod Placed
pub mod ViewChanges
