pub mod Products
pub mod Places
pub mod Examples
pub mod Appended
pub mod Thinning
pub mod Groups
pub mod ThinFails
pub mod Lost
pub mod Thinned
pub mod Described
pub mod FacetPlaces
mod Orthant
mod Determined
mod SetRows
mod TurnedSets
pub mod Polarity
mod DeterminedRows
pub mod ThinExamples
pub mod PlaceExamples
pub mod SetExamples
pub mod LostExamples
pub mod ShortRows
pub mod ThinnedRow
