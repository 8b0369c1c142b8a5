pub mod Number
pub mod Fraction
pub mod Moderate
pub mod Signed
pub mod One
pub mod Ratio
pub mod Laws
pub mod Examples
