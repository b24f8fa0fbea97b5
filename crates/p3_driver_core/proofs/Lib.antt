pub mod BoundLists
pub mod Rejections
pub mod WorkedRows
