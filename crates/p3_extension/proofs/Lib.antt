pub mod ExtensionProducts
pub mod Readings
pub mod WorkedRows
