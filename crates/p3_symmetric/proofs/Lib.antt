mod Batches
pub mod Turning
