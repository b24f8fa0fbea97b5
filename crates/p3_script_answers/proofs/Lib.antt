pub mod AnsweringLaws
pub mod Turning
