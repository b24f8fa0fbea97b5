pub mod FirstFaults
pub mod OneFault
pub mod OpenPositions
pub mod PatternEquality
pub mod PatternGrammarLaws
pub mod Rendered
pub mod WorkedRows
pub mod Walking
