pub mod Bytes
pub mod BytesLaws
pub mod SerializingGrindingLaws
pub mod SerializingGrinding
pub mod SerializingGroups
pub mod SerializingState
pub mod SerializingStateLaws
pub mod SerializingSymbolLaws
