pub mod BinomialExtensions
pub mod BinomialIdentities
pub mod ExtensionCoefficientLaws
pub mod ExtensionCoefficients
pub mod ExtensionLaws
pub mod ExtensionRings
