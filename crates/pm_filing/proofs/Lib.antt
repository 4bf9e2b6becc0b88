pub mod Loaded
pub mod Fitting
pub mod SuitLaws
pub mod PartTurns
pub mod Unique
pub mod ItemTurns
pub mod HeldSets
pub mod TestTurns
pub mod SiteTurns
pub mod MarkPairs
pub mod DataRead
pub mod FileParts
pub mod ReadBack
pub mod ReadSteps
pub mod SiteNames
pub mod Wholeness
pub mod Saved
pub mod Returning
pub mod Returned
pub mod SavedPrograms
pub mod Objectives
mod ProgramsFit
pub mod ProgramsRead
pub mod FlatLists
mod ReadOver
