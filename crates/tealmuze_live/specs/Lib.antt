pub mod Alike
pub mod Lives
pub mod Readings
pub mod Sides
pub mod Starts
