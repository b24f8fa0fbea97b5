pub mod OnePlace
pub mod TwoProofs
