pub mod Subtractions
