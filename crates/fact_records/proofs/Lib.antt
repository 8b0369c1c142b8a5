pub mod AcceptedValues
pub mod Adding
mod AllPut
pub mod Ascending
pub mod BlockPlaces
pub mod BlockStarts
pub mod Columns
pub mod Edits
pub mod FactColumns
pub mod Filling
pub mod Flat
pub mod Fronts
pub mod GivenValues
pub mod HasIds
pub mod IdSearch
pub mod Keeping
pub mod LaidOut
pub mod Leveling
pub mod Load
pub mod NodeFields
pub mod PartTexts
pub mod Rooms
mod SequenceJudging
pub mod ShortLists
pub mod SmallValues
pub mod Stocking
pub mod ValueFields
mod Walking
