pub mod Identifiers
pub mod Labels
pub mod SeparatorContents
pub mod WorkedRows
