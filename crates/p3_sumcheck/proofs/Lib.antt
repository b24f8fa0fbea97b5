pub mod ClaimLaws
pub mod Declaring
pub mod Folding
pub mod Outcomes
pub mod Over
pub mod Reading
pub mod Refusing
pub mod Sending
pub mod TableSums
mod WorkedRows
