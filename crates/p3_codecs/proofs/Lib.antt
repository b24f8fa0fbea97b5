pub mod Following
pub mod Coefficients
