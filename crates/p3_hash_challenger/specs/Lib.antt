pub mod HashCalls
pub mod HashReadBack
pub mod HashSegments
pub mod HashState
pub mod HashStateLaws
pub mod WitnessSearch
