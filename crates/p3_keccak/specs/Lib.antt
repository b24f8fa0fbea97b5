pub mod Keccak
pub mod Tables
pub mod KnownDigests
pub mod Rows
pub mod KeccakLaws
