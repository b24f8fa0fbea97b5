pub mod Preparing
pub mod Searching
