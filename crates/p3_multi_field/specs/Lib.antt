pub mod MultiFieldCalls
pub mod MultiFieldReadBack
pub mod MultiFieldSegments
pub mod MultiFieldState
pub mod MultiFieldStateLaws
pub mod MultiFieldSymbolLaws
pub mod PreparedChecks
pub mod Refusals
