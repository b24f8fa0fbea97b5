pub mod LaneElements
pub mod LaneSums
pub mod Quotients
