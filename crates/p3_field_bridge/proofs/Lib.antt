pub mod Lies
pub mod Packing
pub mod WorkedRows
