pub mod Facts
pub mod StandardKinds
pub mod Greatest
pub mod Sense
pub mod AlikePlaces
pub mod Failing
pub mod Found
pub mod Permuted
pub mod WeightedRows
pub mod DualRight
pub mod DualForms
mod DualMatrix
pub mod FacetRows
pub mod Told
pub mod FoundPrograms
mod Examples
