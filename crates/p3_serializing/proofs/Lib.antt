pub mod WitnessSearch
pub mod Calls
pub mod GrindingRows
pub mod Limits
pub mod Masks
pub mod ReadingGroups
pub mod WorkedRows
