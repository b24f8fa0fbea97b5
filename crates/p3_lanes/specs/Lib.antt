pub mod GoldilocksInLanes
pub mod LaneLaws
pub mod SmallPrimesInLanes
