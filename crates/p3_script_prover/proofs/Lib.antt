pub mod Handing
pub mod NextLaws
