pub mod LengthHasher
pub mod Supply
pub mod TestHashers
pub mod Recorded
pub mod ReadBackWorlds
