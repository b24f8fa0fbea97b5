pub mod GoldilocksResidues
pub mod GoldilocksLaws
