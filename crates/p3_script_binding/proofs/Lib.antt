pub mod Agreeing
pub mod Fronts
pub mod Held
pub mod Telling
