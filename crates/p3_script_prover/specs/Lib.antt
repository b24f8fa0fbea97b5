pub mod Nexts
pub mod ProverAnswers
