pub mod CandidateLaws
pub mod Candidates
pub mod CheckLaws
pub mod Checks
pub mod UniformDrawLaws
pub mod UniformDraws
