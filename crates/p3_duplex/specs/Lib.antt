pub mod DuplexCalls
pub mod DuplexReadBack
pub mod DuplexSegments
pub mod DuplexState
pub mod DuplexStateLaws
pub mod DuplexUniform
pub mod DuplexUniformLaws
pub mod LaneSearch
