mod ListedCells
mod CellTurns
mod DdTables
mod FrontLaws
mod NameLaws
mod RunLaws
mod LeadLaws
mod PlaceLaws
mod DoubleLists
pub mod SortedLaws
mod RunOutcomes
mod PlaceOutcomes
mod PlaceLost
mod LostExamples
