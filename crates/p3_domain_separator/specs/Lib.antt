pub mod Seed
pub mod SeedLaws
pub mod SeparatorLaws
pub mod SeparatorSeed
pub mod SeparatorSeedLaws
pub mod Separators
