pub mod Lineages
pub mod Provenances
pub mod Laws
pub mod Examples
pub mod Saved
pub mod Runs
