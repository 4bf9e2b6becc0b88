pub mod FoundLifted
pub mod LostSites
pub mod LostExamples
