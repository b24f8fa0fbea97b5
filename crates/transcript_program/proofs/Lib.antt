pub mod DemoPattern
pub mod DemoRuns
pub mod InputLemmas
pub mod ScriptLemmas
pub mod ArgumentLemmas
