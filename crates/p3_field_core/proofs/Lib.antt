pub mod BitLengths
pub mod Powers
pub mod WorkedRows
