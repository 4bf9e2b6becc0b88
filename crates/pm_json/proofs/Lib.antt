pub mod Readings
pub mod RowEnds
pub mod SetTurns
pub mod Parts
pub mod FractionTexts
pub mod LastObjects
pub mod MatrixLimits
pub mod SetLimits
pub mod Formed
pub mod CountTurns
pub mod EdgeTurns
pub mod EdgeLimits
pub mod FaceTurns
pub mod Grammar
pub mod GrammarReads
mod Examples
