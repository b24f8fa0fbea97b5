pub mod BridgeLaws
pub mod Bridges
pub mod DigitLaws
pub mod Digits
