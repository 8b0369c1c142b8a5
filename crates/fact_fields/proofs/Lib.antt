pub mod ValuesWritten
pub mod PrintedFields
pub mod ValuesAgain
pub mod NodesAgain
pub mod FactsAgain
