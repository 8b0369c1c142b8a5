pub mod Counting
pub mod Cubes
pub mod Folding
pub mod Lying
pub mod Reading
pub mod Texting
pub mod Working
