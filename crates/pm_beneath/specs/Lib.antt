pub mod CellLists
pub mod Runs
pub mod Names
pub mod DoubleLists
pub mod Placed
pub mod StatedLists
pub mod PlacedRuns
pub mod LostExamples
