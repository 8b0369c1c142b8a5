pub mod FewFacts
pub mod NoFacts
pub mod Noted
pub mod SmallTerms
