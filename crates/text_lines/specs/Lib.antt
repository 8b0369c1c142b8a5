pub mod FieldsLeft
pub mod Input
pub mod Lending
pub mod LineText
pub mod Pieces
pub mod Reading
pub mod Text
