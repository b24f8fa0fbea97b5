pub mod BlockLaws
pub mod CallRowLaws
pub mod Queries
pub mod QueriesLaws
pub mod SumLaws
