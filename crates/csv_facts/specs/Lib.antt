pub mod Examples
pub mod ExtendedRow
pub mod FactFile
pub mod RecordList
