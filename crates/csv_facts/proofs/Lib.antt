pub mod FactsRead
pub mod FieldsLeft
pub mod RecordsLeft
pub mod RowsWritten
pub mod FactsAgain
pub mod FileAgain
pub mod ExtendedRows
