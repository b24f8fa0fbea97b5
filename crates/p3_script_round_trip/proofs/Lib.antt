mod Proofs
