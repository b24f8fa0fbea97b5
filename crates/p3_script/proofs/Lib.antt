pub mod Canonical
pub mod Determined
pub mod OneReason
pub mod Possible
