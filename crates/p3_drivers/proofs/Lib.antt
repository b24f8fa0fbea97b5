pub mod Pieces
pub mod ProverRows
pub mod Refusals
pub mod ValuesInTurn
pub mod VerifierRows
