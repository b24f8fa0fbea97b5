pub mod BytesToField
pub mod BytesToFieldLaws
pub mod Extension
pub mod ExtensionLaws
pub mod Codecs
