pub mod Claims
pub mod DeclaringLaws
pub mod ReadingLaws
pub mod Results
pub mod Sumchecks
pub mod Tables
