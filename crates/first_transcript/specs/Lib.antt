pub mod First
pub mod Scalar
