pub mod Blocks
pub mod Calls
pub mod Keeping
pub mod Uniform
pub mod ReadBack
pub mod LaneBatches
pub mod LaneSearching
