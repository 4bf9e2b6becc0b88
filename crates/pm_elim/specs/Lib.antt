pub mod Bases
pub mod Duals
pub mod Lost
pub mod LostExamples
pub mod Refusals
pub mod ExtendedLists
pub mod Totals
