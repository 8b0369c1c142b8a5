pub mod Changes
pub mod CutTables
pub mod Cuts
pub mod Drafts
pub mod Examples
pub mod Facts
pub mod Rolling
pub mod Views
