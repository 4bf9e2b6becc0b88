pub mod LiftedSites
pub mod Works
pub mod Laws
pub mod LostExamples
