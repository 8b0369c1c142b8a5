pub mod Ends
pub mod Examples
pub mod Picks
pub mod Sides
