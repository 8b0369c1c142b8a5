pub mod FactRow
