pub mod Turn
pub mod Digests
pub mod DigestLaws
pub mod HashValueLaws
