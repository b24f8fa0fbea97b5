pub mod Binding
pub mod Hints
