pub mod Bound
pub mod Lawful
pub mod Runs
pub mod Scripts
pub mod Told
pub mod Uninfluenced
pub mod WorkedRows
