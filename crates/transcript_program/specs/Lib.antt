pub mod Arguments
pub mod Demo
pub mod DemoScript
pub mod DemoTypes
pub mod Program
pub mod Report
