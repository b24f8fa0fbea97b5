pub mod BabyBearResidues
pub mod F257Residues
pub mod KoalaBearResidues
pub mod PrimeIdentities
pub mod SmallPrimes
pub mod SmallPrimeLaws
