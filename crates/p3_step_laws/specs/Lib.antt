pub mod Completeness
pub mod CompletenessLaws
pub mod MemoryLaws
pub mod Mirrored
pub mod OneReason
pub mod ReadBack
pub mod RoundLaws
pub mod Rounds
